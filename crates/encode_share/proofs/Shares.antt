-- What is worked out of the rows of a stripe is what the board keeps; and the stripes of a share.
-- Assumes nothing.
use mathlib.Core.Path.{◌≡◌, refl, sym, ap, ap₂, ◌∙◌}
use mathlib.Core.List.{List, ◌++◌}
use Prim.Native.Nat.{ℕ, ◌+◌, ◌*◌, ◌-◌, ◌<◌, ◌≤◌}
use native.Mathlib.Omega.{arith}
use lib.ListN.{length, get_or, take, drop, length-drop}
use lib.Seq.{length-take-le}
use Rattle.lists.specs.Lists.{tabulate, join, fit}
use Rattle.lists.proofs.Pieces.{tabulate-at, fit_at, length-fit}
use Rattle.sizes.specs.declared.Sizes.{Sizes}
use Rattle.sizes.specs.Sizing.{B, stripes}
use Rattle.sizes.proofs.Legal.{Legal}
use Rattle.polynomial.specs.Polynomial.{eval, evals}
use Rattle.mbcr.specs.Share.{point, stripe, F, kept, share}
use Rattle.row_sums.specs.Steps.{multiples, Tabled}
use Rattle.powers.specs.Steps.{power_row, power_rows}
use Rattle.powers.proofs.Turns.{powers-tabled}
use Rattle.encode_values.specs.Steps.{row_values}
use Rattle.encode_values.proofs.Values.{column-value, column-row}
use Rattle.kept_bytes.specs.Steps.{kept_of}
use Rattle.kept_bytes.proofs.Kept.{kept-of}

-- f by Horner's rule over the rows, g by the sum of a column
pub share-made : (z : Sizes) → Legal z → (xs u rows rest f g : List ℕ) (i x : ℕ) → length xs ≡ 32 → length u ≡ B z → i < z.n → x ≡ point xs i
    → rows ≡ row_values z xs u ++ rest → f ≡ tabulate 32 (λ m. eval (tabulate z.d (λ a. get_or rows (a * 32 + m) 0)) x)
    → g ≡ evals (tabulate z.d (λ a. get_or rows (a * 32 + i) 0)) xs
    → kept_of z (λ b. get_or f b 0) (λ b. get_or g b 0) i ≡ kept z xs u i
share-made z legal xs u rows rest f g i x lx lu hi ex er ef eg =
    let few = legal.few in
    kept-of z legal xs u i (λ b. get_or f b 0) (λ b. get_or g b 0)
    (λ b h.
    ap (λ (l : List ℕ). get_or l b 0) ef ∙ tabulate-at 32 (λ m. eval (tabulate z.d (λ a. get_or rows (a * 32 + m) 0)) x) 0 b (omega arith)
    ∙ column-value z legal u lu xs lx rows rest b x er (omega arith) ∙ ap (λ (v : ℕ). F z u v (point xs b)) ex)
    (λ b h. column-row z legal u lu xs lx rows rest g i b er eg (omega arith) (omega arith))

-- all stripes are the share
pub stripes-share : (z : Sizes) (xs file out rest : List ℕ) (i count : ℕ) → count ≡ stripes z (length file)
    → out ≡ join count (λ s. kept z xs (stripe z file s) i) ++ rest → out ≡ share z xs file i ++ rest
unfolding share
stripes-share z xs file out rest i count e h = h ∙ ap (λ (m : ℕ). join m (λ s. kept z xs (stripe z file s) i) ++ rest) e

-- as long as it is cut
pub part-long : (at w : ℕ) (l : List ℕ) → at + w ≤ length l → length (take (at + w - at) (drop at l)) ≡ w
part-long at w l h = length-take-le (at + w - at) (drop at l) (omega (arith, length-drop at l)) ∙ omega arith

-- only the points of boards count
pub kept-points : (z : Sizes) → Legal z → (xs ys u : List ℕ) (i : ℕ) → i < z.n → ((b : ℕ) → b < z.n → point xs b ≡ point ys b) → kept z xs u i ≡ kept z ys u i
kept-points z legal xs ys u i hi e =
    sym (kept-of z legal xs u i (λ b. F z u (point xs i) (point xs b)) (λ b. F z u (point xs b) (point xs i)) (λ b h. refl) (λ b h. refl))
    ∙ kept-of z legal ys u i (λ b. F z u (point xs i) (point xs b)) (λ b. F z u (point xs b) (point xs i))
    (λ b h. ap₂ (F z u) (e i hi) (e b h)) (λ b h. ap₂ (F z u) (e b h) (e i hi))

-- points filled up with 00
pub padded-points : (z : Sizes) → Legal z → (xs own u : List ℕ) (i : ℕ) → i < z.n → own ≡ fit 32 (drop 0 xs) → kept z own u i ≡ kept z xs u i
padded-points z legal xs own u i hi e =
    kept-points z legal own xs u i hi (λ b h. ap (λ (l : List ℕ). get_or l b 0) e ∙ fit_at 32 xs b (omega (arith, legal.few)))

-- one stripe: what the callees give, put together
pub stripe-share : (z : Sizes) → Legal z → (pts own tables more rows rest u out : List ℕ) (i x : ℕ) → i < z.n → length u ≡ B z → own ≡ fit 32 (drop 0 pts)
    → tables ≡ join (z.d + z.r) (λ j. multiples (power_row own j)) ++ more → x ≡ point own i
    → ((points : List ℕ) → length points ≡ 32 → Tabled (power_rows points (z.d + z.r)) tables → rows ≡ row_values z points u ++ rest)
    → ((points v rest : List ℕ) → length points ≡ 32 → length v ≡ B z → Tabled (power_rows points (z.d + z.r)) tables → x ≡ point points i
    → rows ≡ row_values z points v ++ rest → out ≡ kept z points v i)
    → out ≡ kept z pts u i
stripe-share z legal pts own tables more rows rest u out i x hi lu eo et ex er ek =
    let lo : length own ≡ 32 = ap length eo ∙ length-fit 32 pts in
    let t : Tabled (power_rows own (z.d + z.r)) tables = powers-tabled own tables more (z.d + z.r) lo et in
    ek own u rest lo lu t ex (er own lo t) ∙ padded-points z legal pts own u i hi eo
