-- Request A.9: the line of points, "points=, n lower-case pairs": its bytes `points=`, the pairs, byte 0A. It is read with what is to be done with
-- the points and with the input behind the line, for any kind of answer; the first argument is what a malformed line gives.
-- Assumes nothing.
use Rattle.std.specs.Prelude.{Bool, true, false, List, [], ◌∷◌, ℕ, zero, suc, ◌+◌, ◌*◌, ◌-◌, ltb, eqb}
use Rattle.lists.specs.Tests.{pick}

-- 0 to 9, then a to f
abbrev pub hexadecimal : ℕ → Bool
hexadecimal b = pick (ltb b 0x30) false (pick (ltb b 0x3A) true (pick (ltb b 0x61) false (ltb b 0x67)))

abbrev pub digit_value : ℕ → ℕ
digit_value b = pick (ltb b 0x3A) (b - 0x30) (b - 0x57)

-- one digit
abbrev pub read_digit : {A : Type 0} → A → List ℕ → (ℕ → List ℕ → A) → A
read_digit bad [] go = bad
read_digit bad (b ∷ input) go = pick (hexadecimal b) (go (digit_value b) input) bad

-- these bytes
abbrev pub read_name : {A : Type 0} → A → List ℕ → List ℕ → (List ℕ → A) → A
read_name bad [] input go = go input
read_name bad (c ∷ name) [] go = bad
read_name bad (c ∷ name) (b ∷ input) go = pick (eqb b c) (read_name bad name input go) bad

-- so many bytes, each in two digits, and byte 0A
abbrev pub read_pairs : {A : Type 0} → A → ℕ → List ℕ → (List ℕ → List ℕ → A) → A
read_pairs bad zero input go = read_name bad (0x0A ∷ []) input (go [])
read_pairs bad (suc n) input go = read_digit bad input (λ high input. read_digit bad input (λ low input. read_pairs bad n input (λ xs rest. go ((16 * high + low) ∷ xs) rest)))

-- the line of n points: points=, the pairs, byte 0A
abbrev pub read_points : {A : Type 0} → A → ℕ → List ℕ → (List ℕ → List ℕ → A) → A
read_points bad n input go = read_name bad (0x70 ∷ 0x6F ∷ 0x69 ∷ 0x6E ∷ 0x74 ∷ 0x73 ∷ 0x3D ∷ []) input (λ input. read_pairs bad n input go)
