-- A line at a place of a text: what is told of it.
-- Assumes nothing.
use Rattle.std.specs.Prelude.{true, false, List, [], ◌∷◌, ℕ, ◌+◌, ◌*◌, ◌-◌, eqb, length, get_or, drop}
use Rattle.lists.specs.Tests.{pick}
use Rattle.lists.specs.Lists.{tabulate}
use Rattle.number_lines.specs.Lines.{line}
use Rattle.number_lines.specs.Steps.{capped}
use Rattle.point_lines.specs.Lines.{hexadecimal, digit_value, read_name, read_pairs}
use Rattle.text_in.specs.declared.Told.{Told}

-- one more than the greatest length, 4,096 × 31 × 32
abbrev pub most : ℕ
most = 4063233

-- no such line: no line stands behind the text
abbrev pub lost : List ℕ → Told
lost text = record { ok = false; value = 0; next = length text }

-- the bytes before the number
abbrev pub name_of : ℕ → List ℕ
name_of which =
    pick (eqb which 0) (0x6E ∷ 0x3D ∷ [])
    (pick (eqb which 1) (0x6B ∷ 0x3D ∷ [])
    (pick (eqb which 2) (0x64 ∷ 0x3D ∷ [])
    (pick (eqb which 3) (0x72 ∷ 0x3D ∷ [])
    (pick (eqb which 4) (0x6E ∷ 0x6F ∷ 0x64 ∷ 0x65 ∷ 0x3D ∷ []) (0x6C ∷ 0x65 ∷ 0x6E ∷ 0x67 ∷ 0x74 ∷ 0x68 ∷ 0x3D ∷ [])))))

-- a number, and the place behind the line, before `rest`
abbrev pub number_told : List ℕ → ℕ → List ℕ → Told
number_told text v rest = record { ok = true; value = v; next = length text - length rest }

unfoldable pub number_at : List ℕ → ℕ → ℕ → Told
number_at text at which = line (lost text) (name_of which) (drop at text) (λ v rest. number_told text (capped most v) rest)

-- these bytes
unfoldable pub name_at : List ℕ → ℕ → List ℕ → Told
name_at text at name = read_name (lost text) name (drop at text) (λ rest. record { ok = true; value = 0; next = at + length name })

-- so many pairs and byte 0A
unfoldable pub pairs_at : List ℕ → ℕ → ℕ → Told
pairs_at text at count = read_pairs (lost text) count (drop at text) (λ xs rest. record { ok = true; value = at; next = at + 2 * count + 1 })

-- points= or data=
abbrev pub pairs_name : ℕ → List ℕ
pairs_name which = pick (eqb which 0) (0x70 ∷ 0x6F ∷ 0x69 ∷ 0x6E ∷ 0x74 ∷ 0x73 ∷ 0x3D ∷ []) (0x64 ∷ 0x61 ∷ 0x74 ∷ 0x61 ∷ 0x3D ∷ [])

abbrev pub pairs_line_at : List ℕ → ℕ → ℕ → ℕ → Told
pairs_line_at text at which count = pairs_at text (name_at text at (pairs_name which)).next count

-- the value of a digit, and 0 of any other byte
abbrev pub nibble : ℕ → ℕ
nibble b = pick (hexadecimal b) (digit_value b) 0

-- the byte that a pair spells
abbrev pub pair_at : List ℕ → ℕ → ℕ
pair_at text at = 16 * nibble (get_or text at 0) + nibble (get_or text (at + 1) 0)

abbrev pub bytes_at : List ℕ → ℕ → ℕ → List ℕ
bytes_at text at count = tabulate count (λ j. pair_at text (at + 2 * j))
