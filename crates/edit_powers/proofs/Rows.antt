-- A row of 32 bytes among others; and 00 times a row.
-- Assumes nothing.
use mathlib.Core.Path.{◌≡◌, refl, ap, ap₂, ◌∙◌}
use mathlib.Core.List.{List, [], ◌∷◌}
use Prim.Native.Nat.{ℕ, ◌+◌, ◌*◌, ◌-◌, ◌<◌}
use native.Mathlib.Omega.{arith}
use lib.ListN.{length, take, drop, length-take, length-drop}
use lib.Seq.{take_all}
use Rattle.gf256.specs.Field.{add, add_scaled}
use Rattle.gf256.proofs.Field.{zero-mul}
use Rattle.gf256.proofs.Sums.{add_zero_r}

-- 00 times a row adds nothing
pub times_none : (row acc : List ℕ) → add_scaled 0 row acc ≡ acc
times_none [] acc = refl
times_none (x ∷ row) [] = refl
times_none (x ∷ row) (a ∷ acc) = ap₂ {C = List ℕ} (λ y l. y ∷ l) (ap (add a) (zero-mul x) ∙ add_zero_r a) (times_none row acc)

-- the part of row t, as the borrow checker has it
pub row-long : (t : ℕ) (l : List ℕ) → length l ≡ 1024 → t < 32 → length (take (t * 32 + 32 - t * 32) (drop (t * 32) l)) ≡ 32
row-long t l e h = simp (length-take, length-drop) (omega (arith, e, h))

-- a row copied
pub row_copied : (t : ℕ) (l row ys : List ℕ) → length l ≡ 1024 → t < 32 → length row ≡ 32 → ys ≡ take (length (take (t * 32 + 32 - t * 32) (drop (t * 32) l))) row → ys ≡ row
row_copied t l row ys e h lr ey = ey ∙ take_all (length (take (t * 32 + 32 - t * 32) (drop (t * 32) l))) row (omega (arith, row-long t l e h, lr))
