-- The line of points byte by byte: what the reader is after each byte.
-- Assumes nothing.
use Rattle.std.specs.Prelude.{List, [], ◌∷◌, ℕ, ◌+◌, ◌*◌, ◌%◌, ltb, eqb, length, get_or, set}
use Rattle.lists.specs.Tests.{pick}
use Rattle.lists.specs.Lists.{fit}
use Rattle.point_lines.specs.declared.PointReader.{PointReader}
use Rattle.point_lines.specs.Lines.{hexadecimal, digit_value}

-- so many points, 00 from there up
abbrev pub max_points : ℕ
max_points = 32

-- points=
abbrev pub points_name : List ℕ
points_name = 0x70 ∷ 0x6F ∷ 0x69 ∷ 0x6E ∷ 0x74 ∷ 0x73 ∷ 0x3D ∷ []

abbrev pub begin : PointReader
begin = record { part = 0; at = 0; pairs = 0; high = 0; points = fit max_points [] }

abbrev pub turned : PointReader → ℕ → PointReader
turned r part = record { part = part; at = r.at; pairs = r.pairs; high = r.high; points = r.points }

abbrev pub fed_name : List ℕ → PointReader → ℕ → PointReader
fed_name name r b =
    pick (eqb b (get_or name r.at 0)) (record { part = r.part; at = r.at + 1; pairs = r.pairs; high = r.high; points = r.points }) (turned r 3)

-- the first digit of a pair
abbrev pub begun : PointReader → ℕ → PointReader
begun r high = record { part = 1; at = r.at; pairs = r.pairs; high = high; points = r.points }

-- the end of the line
abbrev pub fed_end : PointReader → ℕ → PointReader
fed_end r b = pick (eqb b 0x0A) (turned r 2) (turned r 3)

-- behind n pairs the line ends; else another begins
abbrev pub fed_high : ℕ → PointReader → ℕ → PointReader
fed_high n r b = pick (eqb r.pairs n) (fed_end r b) (pick (hexadecimal b) (begun r (digit_value b)) (turned r 3))

-- the second digit of a pair
abbrev pub paired : PointReader → ℕ → PointReader
paired r low = record { part = 0; at = r.at; pairs = r.pairs + 1; high = r.high; points = set r.points r.pairs (r.high % 16 * 16 + low) }

abbrev pub fed_low : PointReader → ℕ → PointReader
fed_low r b = pick (ltb r.pairs max_points) (pick (hexadecimal b) (paired r (digit_value b)) (turned r 3)) (turned r 3)

-- the reader after a byte, in a line of n points
unfoldable pub fed : ℕ → PointReader → ℕ → PointReader
fed n r b =
    pick (eqb r.part 1) (fed_low r b)
    (pick (eqb r.part 0) (pick (ltb r.at (length points_name)) (fed_name points_name r b) (fed_high n r b)) r)

-- the input byte by byte, from a reader to the line's end
abbrev pub reads : {A : Type 0} → A → ℕ → PointReader → List ℕ → (List ℕ → List ℕ → A) → A
reads bad n r [] go = bad
reads bad n r (b ∷ input) go = pick (eqb (fed n r b).part 2) (go (fed n r b).points input) (reads bad n (fed n r b) input go)
