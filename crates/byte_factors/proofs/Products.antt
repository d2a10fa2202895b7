-- Products of differences: one more factor, the points but one, and the factors of Lagrange made of them.
-- Assumes nothing.
use mathlib.Core.Path.{◌≡◌, sym, ap, ap₂, ◌∙◌}
use mathlib.Core.List.{List, [], ◌∷◌, ◌++◌}
use Prim.Native.Nat.{ℕ, suc, ◌+◌, ◌-◌, ◌%◌, ◌<◌, ◌≤◌}
use native.Mathlib.Nat.{sub-zero}
use native.Mathlib.Numerals.{add-one}
use native.Mathlib.Omega.{arith}
use lib.ListN.{length, get_or, take, drop, length-drop, drop_of_length-le}
use lib.Seq.{drop-cons, take_all}
use Rattle.lists.specs.Lists.{tabulate, fit}
use Rattle.lists.proofs.Pieces.{tabulate-at}
use Rattle.gf256.specs.Field.{add, mul, inverse}
use Rattle.gf256.proofs.Field.{mul_assoc, one-mul, mul-one}
use Rattle.mbcr.specs.Share.{points}
use Rattle.mbcr.proofs.Points.{length-points}
use Rattle.lagrange.specs.Steps.{differences, others, weight}
use Rattle.lagrange.proofs.Lagrange.{differences-byte}
use Rattle.lagrange_factors.specs.Steps.{factors_for}

-- ---- the loop over the points

pub product-first : (xs : List ℕ) (y : ℕ) → mul 1 (differences xs y) ≡ differences xs y
product-first xs y = one-mul (differences xs y) (differences-byte xs y)

pub product-byte : (xs : List ℕ) (y r : ℕ) → r ≡ differences xs y → r < 256
product-byte xs y r e = rw e (differences-byte xs y)

pub product-turn : (xs : List ℕ) (y u total f new : ℕ) → u < length xs → f ≡ total → new ≡ mul f (add y (get_or xs u 0))
    → mul total (differences (drop u xs) y) ≡ differences xs y → mul new (differences (drop (u + 1) xs) y) ≡ differences xs y
product-turn xs y u total f new h ef en e =
    ap (λ (a : ℕ). mul a (differences (drop (u + 1) xs) y)) (en ∙ ap (λ (a : ℕ). mul a (add y (get_or xs u 0))) ef)
    ∙ ap (λ (m : ℕ). mul (mul total (add y (get_or xs u 0))) (differences (drop m xs) y)) (add-one u)
    ∙ mul_assoc total (add y (get_or xs u 0)) (differences (drop (suc u) xs) y)
    ∙ ap (λ (l : List ℕ). mul total (differences l y)) (sym (drop-cons xs u 0 h))
    ∙ e

pub product-end : (xs : List ℕ) (y u total : ℕ) → length xs ≤ u → total < 256 → mul total (differences (drop u xs) y) ≡ differences xs y
    → total ≡ differences xs y
product-end xs y u total h l e =
    sym (mul-one total l) ∙ ap (λ (q : List ℕ). mul total (differences q y)) (sym (drop_of_length-le xs {i = u} h)) ∙ e

-- ---- the points but one

differences-append : (xs zs : List ℕ) (y : ℕ) → mul (differences xs y) (differences zs y) ≡ differences (xs ++ zs) y
differences-append [] zs y = product-first zs y
differences-append (x ∷ xs) zs y =
    mul_assoc (add y x) (differences xs y) (differences zs y) ∙ ap (mul (add y x)) (differences-append xs zs y)

pub product-but : (xs : List ℕ) (t y a b f r : ℕ) → a ≡ differences (take (t - 0) (drop 0 xs)) y
    → b ≡ differences (take (length xs - (t + 1)) (drop (t + 1) xs)) y → f ≡ a → r ≡ mul f b → r ≡ differences (others xs t) y
product-but xs t y a b f r ea eb ef er =
    er
    ∙ ap₂ mul (ef ∙ ea ∙ ap (λ (m : ℕ). differences (take m xs) y) (sub-zero t))
    (eb ∙ ap (λ (l : List ℕ). differences l y) (take_all (length xs - (t + 1)) (drop (t + 1) xs) (omega (arith, length-drop (t + 1) xs)))
    ∙ ap (λ (m : ℕ). differences (drop m xs) y) (add-one t))
    ∙ differences-append (take t xs) (drop (suc t) xs) y

-- ---- a factor

pub factor-is : (xs inverses : List ℕ) (t y own here f r : ℕ) → inverses ≡ tabulate 256 inverse → own < 256
    → own ≡ differences (others xs t) (get_or xs t 0) → here ≡ differences (others xs t) y → f ≡ get_or inverses own 0 → r ≡ mul f here
    → r ≡ weight xs t y
unfolding weight
factor-is xs inverses t y own here f r ei lo eo eh ef er =
    er
    ∙ ap₂ mul (ef ∙ ap (λ (l : List ℕ). get_or l own 0) ei ∙ tabulate-at 256 inverse 0 own lo ∙ ap inverse eo) eh

-- of boards that were listed
pub near-made : (pts near xs out : List ℕ) (n j y m k L : ℕ) → near ≡ tabulate k (λ t. (j + t) % n) → k ≡ m → xs ≡ points pts near
    → out ≡ fit L (tabulate (length xs) (λ t. weight xs t y)) → out ≡ fit L (factors_for pts (tabulate m (λ t. (j + t) % n)) y)
unfolding factors_for
near-made pts near xs out n j y m k L en ek ex eo =
    eo ∙ ap (λ (l : List ℕ). fit L (tabulate (length l) (λ t. weight l t y))) ex
    ∙ ap (λ (q : ℕ). fit L (tabulate q (λ t. weight (points pts near) t y))) (length-points pts near)
    ∙ ap (λ (l : List ℕ). fit L (factors_for pts l y)) (en ∙ ap (λ (q : ℕ). tabulate q (λ t. (j + t) % n)) ek)
