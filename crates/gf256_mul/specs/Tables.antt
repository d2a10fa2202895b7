-- The powers of 02 and the logarithms. "a table of the 255 powers of 02, each the one before times 02, and a table of logarithms" (request A.4
-- of document 02).
-- Assumes nothing.
use Rattle.std.specs.Prelude.{true, false, List, [], ◌∷◌, ℕ, zero, suc, eqb}
use Rattle.gf256.specs.Field.{mul}

-- x, then each the one before times 02: n of them
unfoldable pub doubled : ℕ → ℕ → List ℕ
doubled zero x = []
doubled (suc n) x = x ∷ doubled n (mul 2 x)

-- "the 255 powers of 02, each the one before times 02"
unfoldable pub powers : List ℕ
powers = doubled 255 1

-- the first place of a in a list, from 0 on; its length where a is not in it
unfoldable pub place : ℕ → List ℕ → ℕ
place a [] = 0
place a (x ∷ xs) = elim (eqb a x) [ true ↦ 0 | false ↦ suc (place a xs) ]

-- the logarithm of a byte: its place among the powers
unfoldable pub logarithm : ℕ → ℕ
logarithm a = place a powers
