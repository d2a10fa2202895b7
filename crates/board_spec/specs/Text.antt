-- Document 01, 'Share text': seven lines, each ended by byte 0A, and one more at other points (request A.9). Characters are their ASCII bytes.
-- Assumes nothing.
use Rattle.std.specs.Prelude.{true, false, List, [], ◌∷◌, ◌++◌, ℕ, zero, suc, ◌+◌, ◌/◌, ◌%◌, ltb, take}
use Rattle.lists.specs.Tests.{pick, same}
use Rattle.lists.specs.Lists.{tabulate, joined}
use Rattle.sizes.specs.declared.Sizes.{Sizes}

-- the decimal digits of x, of which there are at most m + 1
abbrev pub digits : ℕ → ℕ → List ℕ
digits zero x = (0x30 + x) ∷ []
digits (suc m) x = elim (ltb x 10) [ true ↦ (0x30 + x) ∷ [] | false ↦ digits m (x / 10) ++ ((0x30 + x % 10) ∷ []) ]

-- "decimals with no leading zero"
unfoldable pub decimal : ℕ → List ℕ
decimal x = digits x x

-- 0 to 9, then a to f
abbrev pub hex_digit : ℕ → ℕ
hex_digit v = pick (ltb v 10) (0x30 + v) (0x57 + v)

-- "lower-case hexadecimal pairs": one byte
abbrev pub hex_pair : ℕ → List ℕ
hex_pair b = hex_digit (b / 16) ∷ hex_digit (b % 16) ∷ []

-- name=value and the byte 0A
abbrev pub text_line : List ℕ → List ℕ → List ℕ
text_line name value = name ++ (0x3D ∷ []) ++ value ++ (0x0A ∷ [])

-- "the line points=, n lower-case pairs, .. just where the points are not 0 to n − 1 in order"
unfoldable pub points_line : Sizes → List ℕ → List ℕ
points_line z xs =
    let points = take z.n xs in
    pick (same points (tabulate z.n (λ i. i))) [] (text_line (0x70 ∷ 0x6F ∷ 0x69 ∷ 0x6E ∷ 0x74 ∷ 0x73 ∷ []) (joined hex_pair points))

-- "n, k, d, r, node, length as decimals with no leading zero, then data as lower-case hexadecimal pairs of the share"; "points=, .. after length="
unfoldable pub share_text : Sizes → List ℕ → ℕ → ℕ → List ℕ → List ℕ
share_text z xs L node share =
    text_line (0x6E ∷ []) (decimal z.n)
    ++ text_line (0x6B ∷ []) (decimal z.k)
    ++ text_line (0x64 ∷ []) (decimal z.d)
    ++ text_line (0x72 ∷ []) (decimal z.r)
    ++ text_line (0x6E ∷ 0x6F ∷ 0x64 ∷ 0x65 ∷ []) (decimal node)
    ++ text_line (0x6C ∷ 0x65 ∷ 0x6E ∷ 0x67 ∷ 0x74 ∷ 0x68 ∷ []) (decimal L)
    ++ points_line z xs
    ++ text_line (0x64 ∷ 0x61 ∷ 0x74 ∷ 0x61 ∷ []) (joined hex_pair share)
