-- What boards keep of a stripe, out of its values; and a stripe in the working array, old against new.
-- Assumes nothing.
use mathlib.Core.Path.{◌≡◌, ap, ap₂, ◌∙◌}
use mathlib.Core.Logic.{inr}
use mathlib.Core.List.{List, [], ◌++◌, append-nil}
use Prim.Native.Nat.{ℕ, ◌+◌, ◌*◌, ◌-◌, ◌<◌, ◌≤◌}
use native.Mathlib.Nat.{zero-add, add-zero, mul-le-mul}
use native.Mathlib.Omega.{arith}
use lib.ListN.{length, get_or, take, drop, get_or-eq_default}
use lib.Seq.{take_all}
use borrow.Rule.Slice.PartMut.{put_mid}
use Rattle.lists.specs.Lists.{tabulate, join, piece, fit}
use Rattle.lists.proofs.Pieces.{length-tabulate, tabulate-ext, join-ext, length-fit}
use Rattle.sizes.specs.declared.Sizes.{Sizes}
use Rattle.sizes.specs.Sizing.{B}
use Rattle.sizes.proofs.Legal.{Legal, B-most}
use Rattle.polynomial.specs.Polynomial.{evals}
use Rattle.mbcr.specs.Share.{grid, kept}
use Rattle.mbcr.proofs.Shape.{entry-none}
use Rattle.decode_laws.specs.Steps.{cell}
use Rattle.encode_values.specs.Steps.{row_values}
use Rattle.encode_values.proofs.Values.{columns-at}
use Rattle.kept_bytes.proofs.Kept.{kept-of}
use Rattle.edit_rows.specs.Steps.{changed_at}
use Rattle.edit_put.specs.Steps.{kept_by}
use Rattle.edit_stripe.specs.Steps.{laid_rows}
use Rattle.edit_stripe.proofs.Rows.{row_first, evals-fit}

module _ (z : Sizes) (legal : Legal z) (xs u : List ℕ) (lx : length xs ≡ 32) (lu : length u ≡ B z) where
  open z use {n, d}

  -- the values of the rows of the grid
  rows_are : (laid rest rows more : List ℕ) → laid ≡ laid_rows z u ++ rest → rows ≡ join d (λ t. evals (piece 32 t laid) xs) ++ more → rows ≡ row_values z xs u ++ more
  unfolding row_values
  rows_are laid rest rows more el er =
      er ∙ ap (λ (l : List ℕ). l ++ more) (join-ext d (λ t. evals (piece 32 t laid) xs) (λ t. evals (get_or (grid z u) t []) xs)
      (λ t h. ap (λ (l : List ℕ). evals (piece 32 t l) xs) el
      ∙ ap (λ (p : List ℕ). evals p xs) (row_first d (λ i. fit 32 (get_or (grid z u) i [])) rest (λ i k. length-fit 32 (get_or (grid z u) i [])) t h)
      ∙ evals-fit 32 (get_or (grid z u) t []) xs (λ i l. entry-none z legal u lu t i (inr (inr (omega (arith, l, legal.enough, legal.few)))))))

  -- and those of their columns
  columns-are : (laid rows turned values more : List ℕ) → turned ≡ join n (λ i. fit 32 (tabulate d (λ s. cell rows s (0 + i))))
      → values ≡ join n (λ t. evals (piece 32 t (put_mid 0 (n * 32 - 0) laid turned)) xs) ++ more
      → values ≡ join n (λ l. evals (tabulate d (λ i. get_or rows (i * 32 + l) 0)) xs) ++ more
  columns-are laid rows turned values more et ev =
      let f : ℕ → List ℕ = λ i. fit 32 (tabulate d (λ s. cell rows s (0 + i))) in
      ev ∙ ap (λ (l : List ℕ). l ++ more) (join-ext n (λ t. evals (piece 32 t (put_mid 0 (n * 32 - 0) laid turned)) xs) (λ l. evals (tabulate d (λ i. get_or rows (i * 32 + l) 0)) xs)
      (λ l h. ap (λ (t : List ℕ). evals (piece 32 l (t ++ drop (n * 32 - 0) laid)) xs) et
      ∙ ap (λ (p : List ℕ). evals p xs) (row_first n f (drop (n * 32 - 0) laid) (λ i k. length-fit 32 (tabulate d (λ s. cell rows s (0 + i)))) l h)
      ∙ evals-fit 32 (tabulate d (λ s. cell rows s (0 + l))) xs
      (λ i k. get_or-eq_default (tabulate d (λ s. cell rows s (0 + l))) 0 (omega (arith, k, length-tabulate d (λ s. cell rows s (0 + l)), legal.enough, legal.few)))
      ∙ ap (λ (p : List ℕ). evals p xs) (tabulate-ext d (λ s. cell rows s (0 + l)) (λ i. get_or rows (i * 32 + l) 0) (λ s k. ap (λ (m : ℕ). get_or rows (s * 32 + m) 0) (zero-add l)))))

  -- what is taken out of the rows by board is what the boards keep
  pub values-kept : (laid rest rows more turned values last : List ℕ) → laid ≡ laid_rows z u ++ rest → rows ≡ join d (λ t. evals (piece 32 t laid) xs) ++ more
      → turned ≡ join n (λ i. fit 32 (tabulate d (λ s. cell rows s (0 + i)))) → values ≡ join n (λ t. evals (piece 32 t (put_mid 0 (n * 32 - 0) laid turned)) xs) ++ last
      → (i : ℕ) → i < n → kept_by z values i ≡ kept z xs u i
  values-kept laid rest rows more turned values last el er et ev i h =
      let few = legal.few in
      let e = rows_are laid rest rows more el er in
      let c = columns-are laid rows turned values last et ev in
      kept-of z legal xs u i (λ b. get_or values (b * 32 + i) 0) (λ b. get_or values (i * 32 + b) 0)
      (λ b k. columns-at z legal u lu xs lx rows more values last b i e c k (omega (arith, h, few)))
      (λ b k. columns-at z legal u lu xs lx rows more values last i b e c h (omega (arith, k, few)))

-- where a stripe starts
pub stripe-from : (z : Sizes) (s m : ℕ) → Legal z → m ≡ B z → s + 1 ≤ 4096 → s * m ≤ 4063232
stripe-from z s m legal e h = mul-le-mul {n₁ = s} {n₂ = 4096} {m₂ = 992} (omega arith) (omega (arith, B-most z legal))

-- one stripe
one-stripe : (b s m : ℕ) (f : ℕ → List ℕ) (y : List ℕ) → m ≡ b → length (f s) ≡ b → y ≡ take m (join 1 (λ i. f (s + i))) → y ≡ f s
one-stripe b s m f y e lf ey =
    ey ∙ ap₂ (λ (v : ℕ) (l : List ℕ). take v l) e (append-nil (f (s + 0)) ∙ ap f (add-zero s)) ∙ take_all b (f s) (omega arith)

pub one-changed : (b s m offset : ℕ) (bytes : List ℕ) (f : ℕ → List ℕ) (y v : List ℕ) → m ≡ b → length (f s) ≡ b → y ≡ take m (join 1 (λ i. f (s + i)))
    → v ≡ tabulate (length y) (λ q. changed_at offset bytes (s * m + q) (get_or y q 0))
    → v ≡ tabulate b (λ q. changed_at offset bytes (s * b + q) (get_or (f s) q 0))
one-changed b s m offset bytes f y v e lf ey ev =
    let is : y ≡ f s = one-stripe b s m f y e lf ey in
    ev ∙ ap (λ (l : List ℕ). tabulate (length l) (λ q. changed_at offset bytes (s * m + q) (get_or l q 0))) is
    ∙ ap₂ {C = List ℕ} (λ (i j : ℕ). tabulate i (λ q. changed_at offset bytes (s * j + q) (get_or (f s) q 0))) lf e
