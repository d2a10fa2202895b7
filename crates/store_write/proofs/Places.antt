-- Stripe after stripe of all boards: what is put, and that it is the shares in their places.
-- Assumes nothing.
use mathlib.Core.Path.{◌≡◌, refl, sym, ap, ◌∙◌}
use mathlib.Core.List.{List, [], ◌∷◌, ◌++◌}
use mathlib.Core.Logic.{inr}
use Prim.Native.Nat.{ℕ, zero, suc, ◌+◌, ◌*◌, ◌≤◌, ◌<◌}
use native.Mathlib.Nat.{mul-le-mul_right}
use native.Mathlib.Omega.{arith}
use lib.ListN.{length, get_or}
use Rattle.lists.specs.Lists.{tabulate, join, put}
use Rattle.lists.proofs.Pieces.{tabulate-suc, tabulate-get_d}
use Rattle.sizes.specs.declared.Sizes.{Sizes}
use Rattle.sizes.specs.Sizing.{B, α, stripes}
use Rattle.sizes.proofs.Legal.{Legal, row_fits}
use Rattle.polynomial.specs.Polynomial.{evals}
use Rattle.mbcr.specs.Share.{stripe, kept, share}
use Rattle.mbcr.proofs.Repair.{length-kept}
use Rattle.mbcr.proofs.Shape.{length-stripe}
use Rattle.store_spec.specs.Record.{Record, part_len, put_shares}
use Rattle.area_puts.specs.Steps.{puts}
use Rattle.area_puts.proofs.Puts.{puts-same, puts-stripe, puts_none}
use Rattle.encode_values.specs.Steps.{row_values}
use Rattle.encode_values.proofs.Values.{columns-at}
use Rattle.kept_bytes.specs.Steps.{kept_of}
use Rattle.kept_bytes.proofs.Kept.{kept-of}

-- the area is at most 32 parts
pub area-few : (n part i : ℕ) → n ≤ 32 → part ≤ 253952 → i < n → (i * part + part ≤ n * part) × (n * part ≤ 8126464)
area-few n part i hn hp hi =
    let p : n * part ≤ 32 * part = mul-le-mul_right part hn in
    (row_fits i n part hi, omega arith)

-- board by board is the list of boards
last-share : (s : Record) (f : ℕ → List ℕ) (boards : List ℕ) (i : ℕ) (area : List ℕ)
    → put_shares s f (boards ++ (i ∷ [])) area ≡ put (put_shares s f boards area) (i * part_len s) (f i)
last-share s f [] i area = refl
last-share s f (b ∷ boards) i area = last-share s f boards i (put area (b * part_len s) (f b))

listed : (s : Record) (f : ℕ → List ℕ) (h : ℕ → ℕ) (m : ℕ) (area : List ℕ) → puts (λ a. h a * part_len s) (λ a. f (h a)) m area ≡ put_shares s f (tabulate m h) area
listed s f h zero area = refl
listed s f h (suc m) area =
    ap (λ (l : List ℕ). put l (h m * part_len s) (f (h m))) (listed s f h m area)
    ∙ sym (last-share s f (tabulate m h) (h m) area)
    ∙ ap (λ (l : List ℕ). put_shares s f l area) (sym (tabulate-suc m h))

pub by-places : (s : Record) (f : ℕ → List ℕ) (boards : List ℕ) (m : ℕ) (area : List ℕ) → length boards ≡ m
    → puts (λ a. get_or boards a 0 * part_len s) (λ a. f (get_or boards a 0)) m area ≡ put_shares s f boards area
by-places s f boards m area e = listed s f (λ a. get_or boards a 0) m area ∙ ap (λ (l : List ℕ). put_shares s f l area) (tabulate-get_d m boards 0 e)

module _ (z : Sizes) (legal : Legal z) (xs file area₀ : List ℕ) (part : ℕ) (la : length area₀ ≡ z.n * part) where
  -- stripe s of board i
  abbrev kept_at : ℕ → ℕ → List ℕ
  kept_at i s = kept z xs (stripe z file s) i

  -- the area with the first s stripes of all boards
  abbrev pub up_to : ℕ → List ℕ
  up_to s = puts (λ i. i * part) (λ i. join s (kept_at i)) z.n area₀

  -- none
  pub first : area₀ ≡ up_to 0
  first = puts_none (λ i. i * part) z.n area₀

  -- one stripe more
  pub turn : (s : ℕ) (area new : List ℕ) → s * α z + α z ≤ part → area ≡ up_to s
      → new ≡ puts (λ i. i * part + s * α z) (λ i. kept_at i s) z.n area → new ≡ up_to (s + 1)
  turn s area new room ea en =
      en ∙ ap (puts (λ i. i * part + s * α z) (λ i. kept_at i s) z.n) ea
      ∙ puts-stripe (λ i. i * part) part (α z) s z.n kept_at (λ i t h. length-kept z xs legal (stripe z file t) i) room area₀
      (λ i h. omega (arith, row_fits i z.n part h)) (λ a b h k. inr (row_fits a b part h))

-- all stripes are the shares
pub shares-put : (s : Record) (z : Sizes) (xs file area₀ area : List ℕ) (count : ℕ) → count ≡ stripes z (length file)
    → area ≡ puts (λ i. i * part_len s) (λ i. join count (λ t. kept z xs (stripe z file t) i)) z.n area₀
    → area ≡ put_shares s (share z xs file) (tabulate z.n (λ i. i)) area₀
unfolding share
shares-put s z xs file area₀ area count e h =
    h ∙ ap (λ (m : ℕ). puts (λ i. i * part_len s) (λ i. join m (λ t. kept z xs (stripe z file t) i)) z.n area₀) e
    ∙ listed s (λ i. join (stripes z (length file)) (λ t. kept z xs (stripe z file t) i)) (λ i. i) z.n area₀

-- what is taken out of the rows by board is what the boards keep
pub boards-kept : (z : Sizes) → Legal z → (xs file rows rest values more area : List ℕ) (s part at : ℕ) → length xs ≡ 32
    → rows ≡ row_values z xs (stripe z file s) ++ rest
    → values ≡ join z.n (λ l. evals (tabulate z.d (λ i. get_or rows (i * 32 + l) 0)) xs) ++ more
    → puts (λ i. i * part + at) (λ i. kept_of z (λ b. get_or values (b * 32 + i) 0) (λ b. get_or values (i * 32 + b) 0) i) z.n area
    ≡ puts (λ i. i * part + at) (λ i. kept z xs (stripe z file s) i) z.n area
boards-kept z legal xs file rows rest values more area s part at lx er ev =
    let u : List ℕ = stripe z file s in
    let lu : length u ≡ B z = length-stripe z file s in
    let few = legal.few in
    puts-same (λ i. i * part + at) (λ i. i * part + at) _ (λ i. kept z xs u i) z.n area (λ i h. refl)
    (λ i h.
    kept-of z legal xs u i (λ b. get_or values (b * 32 + i) 0) (λ b. get_or values (i * 32 + b) 0)
    (λ b k. columns-at z legal u lu xs lx rows rest values more b i er ev k (omega arith))
    (λ b k. columns-at z legal u lu xs lx rows rest values more i b er ev h (omega arith)))
