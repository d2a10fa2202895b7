-- The walk over the powers of 02 and of its inverse.
-- Assumes nothing.
use Rattle.std.specs.Prelude.{List, ℕ, zero, suc, ◌*◌, ◌/◌, ◌%◌, set}
use Rattle.gf256.specs.Field.{add, mul}

-- a byte divided by z
unfoldable pub halved : ℕ → ℕ
halved y = add (y / 2) (y % 2 * 0x8E)

-- a table after so many steps from x and its inverse y
unfoldable pub walk : ℕ → ℕ → ℕ → List ℕ → List ℕ
walk zero x y t = t
walk (suc n) x y t = walk n (mul 2 x) (halved y) (set t x y)
