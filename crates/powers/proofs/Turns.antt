-- The loop over the powers: its start and a turn; and what the tables are for a sum of rows.
-- Assumes nothing.
use mathlib.Core.Path.{◌≡◌, refl, sym, ap, ap₂, ◌∙◌}
use mathlib.Core.List.{List, [], ◌∷◌, ◌++◌}
use Prim.Native.Nat.{ℕ, suc, ◌+◌, ◌*◌, ◌<◌, ◌≤◌}
use native.Mathlib.Numerals.{add-one}
use native.Mathlib.Omega.{arith}
use lib.ListN.{length, take, drop, replicate, length-map, length-drop}
use lib.Seq.{take-append-le, drop-append-le}
use Rattle.lists.specs.Lists.{join, piece}
use Rattle.lists.proofs.Pieces.{length-tabulate, tabulate-at, tabulate-all, length-join, piece-join}
use Rattle.gf256.proofs.Field.{mul_comm}
use Rattle.polynomial.specs.Polynomial.{power}
use Rattle.row_sums.specs.Steps.{multiples, Tabled, Wide}
use Rattle.row_sums.proofs.Tables.{length-multiples}
use Rattle.row_products.specs.Steps.{products}
use Rattle.powers.specs.Steps.{power_row, power_rows}

first-powers : (xs : List ℕ) → replicate (length xs) 1 ≡ power_row xs 0
first-powers [] = refl
first-powers (x ∷ xs) = ap {B = List ℕ} (λ l. 1 ∷ l) (first-powers xs)

-- 1 for each point
pub power-start : (xs : List ℕ) (n : ℕ) → length xs ≡ n → replicate n 1 ≡ power_row xs 0
power-start xs n l = ap (λ (m : ℕ). replicate m 1) (sym l) ∙ first-powers xs

next-powers : (xs : List ℕ) (j : ℕ) → products (power_row xs j) xs ≡ power_row xs (suc j)
next-powers [] j = refl
next-powers (x ∷ xs) j = ap₂ {C = List ℕ} (λ y l. y ∷ l) (mul_comm (power x j) x) (next-powers xs j)

-- each power times its point
pub power-turn : (xs p q : List ℕ) (j : ℕ) → p ≡ power_row xs j → q ≡ products p xs → q ≡ power_row xs (j + 1)
power-turn xs p q j ep eq = eq ∙ ap (λ (l : List ℕ). products l xs) ep ∙ next-powers xs j ∙ ap (power_row xs) (sym (add-one j))

pub length-power_row : (xs : List ℕ) (j : ℕ) → length (power_row xs j) ≡ length xs
length-power_row xs j = length-map xs (λ x. power x j)

-- ---- the loop's tables

pub length-power-multiples : (xs : List ℕ) (j : ℕ) → length xs ≡ 32 → length (multiples (power_row xs j)) ≡ 512
length-power-multiples xs j l = length-multiples (power_row xs j) (length-power_row xs j ∙ l)

-- a run of bytes in the first of two lists
front : (i m : ℕ) (a b : List ℕ) → i + m ≤ length a → take m (drop i (a ++ b)) ≡ take m (drop i a)
front i m a b h =
    let g : m ≤ length (drop i a) = omega (arith, length-drop i a) in
    ap (take m) (drop-append-le i a b (omega arith)) ∙ take-append-le m (drop i a) b g

-- what is filled in are tables of the powers
pub powers-tabled : (xs tables rest : List ℕ) (w : ℕ) → length xs ≡ 32 → tables ≡ join w (λ j. multiples (power_row xs j)) ++ rest
    → Tabled (power_rows xs w) tables
unfolding piece
powers-tabled xs tables rest w l e i h =
    let lw : length (power_rows xs w) ≡ w = length-tabulate w (power_row xs) in
    let hw : i < w = omega arith in
    let lj : length (join w (λ j. multiples (power_row xs j))) ≡ w * 512 = length-join w 512 (λ j. multiples (power_row xs j)) (λ j _. length-power-multiples xs j l) in
    ap (λ (t : List ℕ). take 512 (drop (i * 512) t)) e
    ∙ front (i * 512) 512 (join w (λ j. multiples (power_row xs j))) rest (omega arith)
    ∙ piece-join w 512 (λ j. multiples (power_row xs j)) (λ j _. length-power-multiples xs j l) i hw
    ∙ ap multiples (sym (tabulate-at w (power_row xs) [] i hw))

pub powers-wide : (xs : List ℕ) (w : ℕ) → length xs ≡ 32 → Wide (power_rows xs w)
powers-wide xs w l = tabulate-all (λ row. length row ≡ 32) w (power_row xs) (λ j _. length-power_row xs j ∙ l)
