-- The loop over two rows: a turn, and its end.
-- Assumes nothing.
use mathlib.Core.Path.{◌≡◌, refl, ap, ◌∙◌}
use mathlib.Core.List.{List, [], ◌∷◌, ◌++◌}
use Prim.Native.Nat.{ℕ, zero, suc, ◌+◌, ◌<◌, ◌≤◌}
use native.Mathlib.Numerals.{add-one}
use native.Mathlib.Omega.{arith}
use lib.ListN.{length, get_or, take, drop, set}
use Rattle.gf256.specs.Field.{mul}
use Rattle.row_products.specs.Steps.{products}

product-step : (a b : List ℕ) (j : ℕ) → j < length a → j < length b
    → let new : List ℕ = set a j (mul (get_or a j 0) (get_or b j 0)) in
    take (suc j) new ++ products (drop (suc j) new) (drop (suc j) b) ≡ take j a ++ products (drop j a) (drop j b)
product-step [] b j h k = absurd (omega arith)
product-step (x ∷ a) [] j h k = absurd (omega arith)
product-step (x ∷ a) (y ∷ b) zero h k = refl
product-step (x ∷ a) (y ∷ b) (suc j) h k = ap {B = List ℕ} (λ l. x ∷ l) (product-step a b j (omega arith) (omega arith))

-- a turn as code has it
pub product-turn : (a b e : List ℕ) (j x v : ℕ) → j < length a → j < length b → x ≡ get_or a j 0 → v ≡ mul x (get_or b j 0)
    → take j a ++ products (drop j a) (drop j b) ≡ e
    → take (j + 1) (set a j v) ++ products (drop (j + 1) (set a j v)) (drop (j + 1) b) ≡ e
product-turn a b e j x v h k ex ev eq =
    let ev' : v ≡ mul (get_or a j 0) (get_or b j 0) = cc in
    rw (add-one j, ev') (product-step a b j h k ∙ eq)

-- at the end of the loop
pub product-end : (a b : List ℕ) (j : ℕ) → length a ≤ j → take j a ++ products (drop j a) b ≡ a
product-end [] b zero h = refl
product-end [] b (suc j) h = refl
product-end (x ∷ a) b zero h = absurd (omega arith)
product-end (x ∷ a) b (suc j) h = ap {B = List ℕ} (λ l. x ∷ l) (product-end a b j (omega arith))
