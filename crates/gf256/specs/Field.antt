-- The field of 256 elements. "Symbols are bytes, elements of the field of 256 elements. Addition is exclusive or. A product is that of
-- polynomials over {0, 1}, bit m being the coefficient of z to the m, reduced modulo z^8 + z^4 + z^3 + z^2 + 1 (11D)."
-- Assumes nothing.
use Rattle.std.specs.Prelude.{List, [], ◌∷◌, ℕ, zero, suc, ◌+◌, ◌*◌, ◌/◌, ◌%◌, ◌^◌}
use Rattle.std.specs.Int.Bits.{bit_xor}

-- "Addition is exclusive or."
unfoldable pub add : ℕ → ℕ → ℕ
add a b = bit_xor a b

-- "that of polynomials over {0, 1}, bit m being the coefficient of z to the m": the sum of a times z to the m over the m below k with bit m in b
unfoldable pub product : ℕ → ℕ → ℕ → ℕ
product zero a b = 0
product (suc k) a b = add (b % 2 * a) (product k (a * 2) (b / 2))

-- "reduced modulo z^8 + z^4 + z^3 + z^2 + 1 (11D)": the remainder of a polynomial of degree below k + 8, by long division from the
-- highest coefficient down
unfoldable pub reduce : ℕ → ℕ → ℕ
reduce zero x = x
reduce (suc k) x = reduce k (add (x / 2 ^ (k + 8) % 2 * (0x11D * 2 ^ k)) x)

-- "A product": that of two bytes, and of other numbers that of their low 8 bits
unfoldable pub mul : ℕ → ℕ → ℕ
mul a b = reduce 7 (product 8 (a % 256) (b % 256))

-- a to the power 2 + 4 + .. + 2 ^ k
unfoldable pub squares : ℕ → ℕ → ℕ
squares zero a = 1
squares (suc k) a = let s = mul a a in mul s (squares k s)

-- a to the power 254, which is the inverse of a, unless a is 0
unfoldable pub inverse : ℕ → ℕ
inverse a = squares 7 a

-- acc with c times row added to it, symbol by symbol, as far as both go
abbrev pub add_scaled : ℕ → List ℕ → List ℕ → List ℕ
add_scaled c [] acc = acc
add_scaled c (x ∷ row) [] = []
add_scaled c (x ∷ row) (a ∷ acc) = add a (mul c x) ∷ add_scaled c row acc
