-- The products of two rows, byte by byte.
-- Assumes nothing.
use Rattle.std.specs.Prelude.{List, [], ◌∷◌, ℕ}
use Rattle.gf256.specs.Field.{mul}

-- the product of each byte of the first and the byte of the second in the same place
abbrev pub products : List ℕ → List ℕ → List ℕ
products [] b = []
products (x ∷ a) [] = []
products (x ∷ a) (y ∷ b) = mul x y ∷ products a b
