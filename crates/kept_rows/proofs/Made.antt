-- Rows that are filled in and filled up with 00, as the borrow checker has them.
-- Assumes nothing.
use mathlib.Core.Path.{◌≡◌, refl, sym, ap, ap₂, ◌∙◌}
use mathlib.Core.Bool.{true}
use mathlib.Core.List.{List, [], ◌∷◌, ◌++◌, append-nil}
use Prim.Native.Nat.{ℕ, zero, suc, ◌+◌, ◌*◌, ◌-◌, ◌<◌, ◌≤◌}
use native.Mathlib.Nat.{sub-zero}
use native.Mathlib.Omega.{arith}
use lib.ListN.{length, get_or, take, drop, set, length-drop, length-set, drop_of_length-le}
use lib.Seq.{take_all, take-suc, take-suc-set, get_or-take, get_or-drop, length-take-le}
use borrow.Rule.Slice.PartMut.{put_mid}
use Rattle.lists.specs.Lists.{tabulate, fit}
use Rattle.lists.specs.Tests.{below}
use Rattle.lists.proofs.Alls.{all-at}
use Rattle.lists.proofs.Boards.{below_all}
use Rattle.lists.proofs.Pieces.{length-tabulate}
use Rattle.gf256.specs.Field.{mul}
use Rattle.polynomial.specs.Polynomial.{sum}
use Rattle.decode_laws.specs.Steps.{f_row, g_row}
use Rattle.decode_laws.proofs.Sums.{sum_below}

fit-over : (m : ℕ) (a : List ℕ) → length a ≤ m → a ++ drop (length a) (tabulate m (λ _. 0)) ≡ fit m a
fit-over m [] h = none m
  where
    none : (m : ℕ) → tabulate m (λ _. 0) ≡ fit m []
    none zero = refl
    none (suc m) = ap {B = List ℕ} (λ l. 0 ∷ l) (none m)
fit-over zero (x ∷ a) h = absurd (omega arith)
fit-over (suc m) (x ∷ a) h = ap {B = List ℕ} (λ l. x ∷ l) (fit-over m a (omega arith))

-- all cleared, and bytes copied to the beginning
pub padded-made : (a out zs ys : List ℕ) → length a ≤ length out → zs ≡ tabulate (length out) (λ _. 0)
    → ys ≡ take (length (take (length a - 0) (drop 0 zs))) a
    → put_mid 0 (length a - 0) zs ys ≡ fit (length out) a
padded-made a out zs ys h ez ey =
    let m : ℕ = length a in
    let long : length zs ≡ length out = ap length ez ∙ length-tabulate (length out) _ in
    let e : length (take (m - 0) (drop 0 zs)) ≡ m = length-take-le (m - 0) zs (omega arith) ∙ sub-zero m in
    let y : ys ≡ a = ey ∙ ap (λ (k : ℕ). take k a) e ∙ take_all m a (omega arith) in
    ap (λ (q : List ℕ). q ++ drop (m - 0) zs) y
    ∙ ap (λ (i : ℕ). a ++ drop i zs) (sub-zero m)
    ∙ ap (λ (q : List ℕ). a ++ drop m q) ez
    ∙ fit-over (length out) a h

-- the row of f
pub f-made : (w : ℕ) (held f new : List ℕ) → length f ≡ 32 → new ≡ fit (length f) (take (w - 0) (drop 0 held)) → new ≡ f_row w held
f-made w held f new l e = e ∙ ap₂ (λ (m n : ℕ). fit m (take n held)) l (sub-zero w)

-- the row of g
pub g-made : (w d : ℕ) (held g ys : List ℕ) → length g ≡ 32 → 1 ≤ w → length held ≡ w + (d - 1)
    → ys ≡ fit (length (take (32 - 1) (drop 1 (set g 0 (get_or held 0 0))))) (take (length held - w) (drop w held))
    → put_mid 1 (32 - 1) (set g 0 (get_or held 0 0)) ys ≡ g_row w held
g-made w d held g ys l hw lh ey =
    let s : List ℕ = set g 0 (get_or held 0 0) in
    let ls : length s ≡ 32 = length-set g 0 (get_or held 0 0) ∙ l in
    let n : length (take (32 - 1) (drop 1 s)) ≡ 31 = length-take-le 31 (drop 1 s) (omega (arith, length-drop 1 s)) in
    let y : ys ≡ fit 31 (drop w held) = ey ∙ ap₂ fit n (take_all (length held - w) (drop w held) (omega (arith, length-drop w held))) in
    ap₂ {C = List ℕ} (λ p q. p ++ q) (take-suc-set g 0 (get_or held 0 0) (omega arith))
    (ap₂ {C = List ℕ} (λ p q. p ++ q) y (drop_of_length-le (drop 1 s) {i = 32 - 1} (omega (arith, length-drop 1 s))) ∙ append-nil (fit 31 (drop w held)))
    ∙ ap (λ (p : List ℕ). fit 32 (p ++ drop w held)) (sym (take-suc held 0 0 (omega arith)))

-- a sum of products with a part of the factors
pub dot-made : (c o m at : ℕ) (factors row : List ℕ) (r : ℕ) → at ≡ (o - c) * 32 → at + m ≤ length factors
    → r ≡ sum (length (take (at + m - at) (drop at factors))) (λ j. mul (get_or (take (at + m - at) (drop at factors)) j 0) (get_or row j 0))
    → r ≡ sum m (λ j. mul (get_or factors ((o - c) * 32 + j) 0) (get_or row j 0))
dot-made c o m at factors row r e h er =
    let q : at + m - at ≡ m = omega arith in
    let l : length (take m (drop at factors)) ≡ m = length-take-le m (drop at factors) (omega (arith, length-drop at factors)) in
    er ∙ ap (λ (n : ℕ). sum (length (take n (drop at factors))) (λ j. mul (get_or (take n (drop at factors)) j 0) (get_or row j 0))) q
    ∙ ap (λ (n : ℕ). sum n (λ j. mul (get_or (take m (drop at factors)) j 0) (get_or row j 0))) l
    ∙ sum_below m _ _ (λ j k. ap (λ (v : ℕ). mul v (get_or row j 0)) (get_or-take m (drop at factors) j 0 k ∙ get_or-drop at factors j 0 ∙ ap (λ (a : ℕ). get_or factors (a + j) 0) e))

-- a board of a list
pub board-below : (n : ℕ) (l : List ℕ) (i : ℕ) → below n l ≡ true → i < length l → get_or l i 0 < n
board-below n l i h k = all-at (λ x. x < n) 0 l (below_all n l h) i k

-- what is left from a place on
pub rest_part : (a : ℕ) (l : List ℕ) → take (length l - a) (drop a l) ≡ drop a l
rest_part a l = take_all (length l - a) (drop a l) (omega (arith, length-drop a l))

-- a sum of products of a row's beginning with 32 bytes from a place on
pub top-made : (m at : ℕ) (row va : List ℕ) (r : ℕ) → m ≤ 32 → length row ≡ 32 → at + 32 ≤ length va
    → r ≡ sum (length (take (m - 0) (drop 0 row))) (λ j. mul (get_or (take (m - 0) (drop 0 row)) j 0) (get_or (take (at + 32 - at) (drop at va)) j 0))
    → r ≡ sum m (λ s. mul (get_or row s 0) (get_or va (at + s) 0))
top-made m at row va r hm lr h er =
    let q : at + 32 - at ≡ 32 = omega arith in
    let l : length (take m row) ≡ m = length-take-le m row (omega arith) in
    er ∙ ap₂ (λ (n k : ℕ). sum (length (take n row)) (λ j. mul (get_or (take n row) j 0) (get_or (take k (drop at va)) j 0))) (sub-zero m) q
    ∙ ap (λ (n : ℕ). sum n (λ j. mul (get_or (take m row) j 0) (get_or (take 32 (drop at va)) j 0))) l
    ∙ sum_below m _ _ (λ j k. ap₂ mul (get_or-take m row j 0 k) (get_or-take 32 (drop at va) j 0 (omega arith) ∙ get_or-drop at va j 0))
