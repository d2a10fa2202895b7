-- The printers byte by byte: what the parser is after each byte, the file's bytes that are kept, and what is written at the end.
-- Assumes nothing.
use Rattle.std.specs.Prelude.{Bool, true, false, List, [], ◌∷◌, ◌++◌, ℕ, ◌+◌, ◌-◌, ltb, eqb}
use Rattle.lists.specs.Tests.{pick, alls}
use Rattle.number_lines.specs.declared.Reader.{Reader}
use Rattle.number_lines.specs.declared.Read.{Read}
use Rattle.number_lines.specs.declared.Read.TheVariants.{More, Whole, Malformed}
use Rattle.number_lines.specs.Steps as steps
use Rattle.point_lines.specs.declared.PointReader.{PointReader}
use Rattle.point_lines.specs.Steps as points
use Rattle.sizes.specs.declared.Sizes.{Sizes}
use Rattle.sizes.specs.Sizing.{legal}
use Rattle.mbcr.specs.Share.{standard, pointed}
use Rattle.printer.specs.declared.Parser.{Parser}
use Rattle.printer.specs.Printer.{refused_line, max_file, shared}

-- the bytes before the number, by how many lines are left
abbrev pub name_of : ℕ → List ℕ
name_of left =
    pick (eqb left 5) (0x6E ∷ 0x3D ∷ [])
    (pick (eqb left 4) (0x6B ∷ 0x3D ∷ [])
    (pick (eqb left 3) (0x64 ∷ 0x3D ∷ []) (pick (eqb left 2) (0x72 ∷ 0x3D ∷ []) (0x6E ∷ 0x6F ∷ 0x64 ∷ 0x65 ∷ 0x3D ∷ []))))

-- a number of 1,000 or more is held as 1,000
abbrev pub max_number : ℕ
max_number = 1000

-- a line of points, where it is asked for, has to be read
abbrev pub begin_points : Bool → PointReader
begin_points asked = points.turned points.begin (pick asked 0 2)

abbrev pub begin : Bool → Parser
begin asked = record { left = 5; line = steps.begin; n = 0; k = 0; d = 0; r = 0; node = 0; asked = asked; points = begin_points asked; count = 0; bad = false }

-- another place in the line
abbrev pub moved : Parser → Reader → Bool → Parser
moved p line bad = record {
  left = p.left;
  line = line;
  n = p.n;
  k = p.k;
  d = p.d;
  r = p.r;
  node = p.node;
  asked = p.asked;
  points = p.points;
  count = p.count;
  bad = bad;
}

-- the line is malformed, or a read failed
abbrev pub wrong : Parser → Parser
wrong p = moved p p.line true

-- the number of the line, of which `left` were left; the next line begins
abbrev pub stored : ℕ → Parser → ℕ → Parser
stored left p v = record {
  left = left - 1;
  line = steps.begin;
  n = pick (eqb left 5) v p.n;
  k = pick (eqb left 4) v p.k;
  d = pick (eqb left 3) v p.d;
  r = pick (eqb left 2) v p.r;
  node = pick (eqb left 1) v p.node;
  asked = p.asked;
  points = p.points;
  count = p.count;
  bad = p.bad;
}

-- another byte of the file, counted up to one more than a file may have
abbrev pub counted : Parser → Parser
counted p = record {
  left = p.left;
  line = p.line;
  n = p.n;
  k = p.k;
  d = p.d;
  r = p.r;
  node = p.node;
  asked = p.asked;
  points = p.points;
  count = pick (ltb max_file p.count) p.count (p.count + 1);
  bad = p.bad;
}

-- what a byte of the line gives
abbrev pub line_fed : ℕ → Reader → ℕ → Read
line_fed left line b = steps.fed (name_of left) max_number line b

abbrev pub taken : Parser → Read → Parser
taken p (More r) = moved p r p.bad
taken p (Whole v) = stored p.left p v
taken p Malformed = wrong p

-- another place in the line of points
abbrev pub points_moved : Parser → PointReader → Parser
points_moved p points = record {
  left = p.left;
  line = p.line;
  n = p.n;
  k = p.k;
  d = p.d;
  r = p.r;
  node = p.node;
  asked = p.asked;
  points = points;
  count = p.count;
  bad = p.bad;
}

-- behind the lines of numbers: a byte of the file, or of the line of points
abbrev pub behind_fed : Parser → ℕ → Parser
behind_fed p b = pick (eqb p.points.part 2) (counted p) (points_moved p (points.fed p.n p.points b))

-- the parser after a byte
unfoldable pub fed : Parser → ℕ → Parser
fed p b = pick p.bad p (pick (eqb p.left 0) (behind_fed p b) (taken p (line_fed p.left p.line b)))

-- all lines are read
abbrev pub in_file : Parser → Bool
in_file p = pick (eqb p.left 0) (eqb p.points.part 2) false

-- the bytes of the file that are kept: all up to the most that a file may have
abbrev pub keep : Parser → List ℕ → ℕ → List ℕ
keep p kept b = pick p.bad kept (pick (in_file p) (pick (ltb p.count max_file) (kept ++ (b ∷ [])) kept) kept)

abbrev pub sizes_read : Parser → Sizes
sizes_read p = record { n = p.n; k = p.k; d = p.d; r = p.r }

-- those that were read, or document 01's
abbrev pub points_read : Parser → List ℕ
points_read p = pick p.asked p.points.points (standard (sizes_read p))

-- legal sizes, and points that are taken with them
abbrev pub accepted : Sizes → List ℕ → Bool
accepted z xs = alls (legal z ∷ pointed z xs ∷ [])

-- "a malformed line gives 1", then sizes or points that are not taken, then "more than 16,384 file bytes give 3"; else 0
abbrev pub refusal_of : Parser → ℕ
refusal_of p = pick p.bad 1 (pick (in_file p) (pick (accepted (sizes_read p) (points_read p)) (pick (ltb max_file p.count) 3 0) 1) 1)

-- what is written at the end
unfoldable pub decided : Parser → List ℕ → List ℕ
decided p kept = pick (eqb (refusal_of p) 0) (shared (sizes_read p) (points_read p) p.node kept) (refused_line (refusal_of p))

-- the input byte by byte, from a parser and what was kept
abbrev pub runs : Parser → List ℕ → List ℕ → List ℕ
runs p kept [] = decided p kept
runs p kept (b ∷ input) = runs (fed p b) (keep p kept b) input
