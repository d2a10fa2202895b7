-- What holds of the points printer. Of its six lines and a file it is said what is written, for any sizes, points, board and file; the line with
-- another number of pairs is refused, and every other form of it, and of the lines before it; with points 0 to n − 1 in order it writes what the share
-- printer writes; and byte by byte the same is written as the definition says.
-- Assumes nothing.
use Rattle.std.specs.Prelude.{◌≡◌, true, false, ◌≢◌, ◌⊎◌, List, [], ◌∷◌, ◌++◌, ℕ, ◌*◌, ◌≤◌, ◌<◌, length, take}
use Rattle.lists.specs.Lists.{Bytes, tabulate, joined, fit}
use Rattle.number_lines.specs.Laws.{Number}
use Rattle.sizes.specs.declared.Sizes.{Sizes}
use Rattle.sizes.specs.Sizing.{legal, B}
use Rattle.mbcr.specs.Share.{point, pointed, share}
use Rattle.board_spec.specs.Demand1.{value}
use Rattle.board_spec.specs.Text.{decimal, hex_pair, text_line}
use Rattle.printer.specs.Laws.{asks, seven_lines}
use Rattle.printer.specs.Printer.{refused_line, printed}
use Rattle.printer.specs.Steps.{begin, runs}
use Rattle.point_lines.specs.Lines.{read_points}
use Rattle.points_print.specs.PointsPrinter.{points_printed}

-- points=, pairs, byte 0A
abbrev pub points_text : List ℕ → List ℕ
points_text xs = text_line (0x70 ∷ 0x6F ∷ 0x69 ∷ 0x6E ∷ 0x74 ∷ 0x73 ∷ []) (joined hex_pair xs)

-- n, k, d, r, node, length as decimals, "points=, n lower-case pairs, .. after length=", then data
abbrev pub eight_lines : Sizes → List ℕ → ℕ → ℕ → List ℕ → List ℕ
eight_lines z xs L node share =
    asks (decimal z.n) (decimal z.k) (decimal z.d) (decimal z.r) (decimal node)
    (text_line (0x6C ∷ 0x65 ∷ 0x6E ∷ 0x67 ∷ 0x74 ∷ 0x68 ∷ []) (decimal L)
    ++ (points_text (take z.n xs) ++ text_line (0x64 ∷ 0x61 ∷ 0x74 ∷ 0x61 ∷ []) (joined hex_pair share)))

-- the six lines and the file
abbrev pub asks_points : Sizes → List ℕ → ℕ → List ℕ → List ℕ
asks_points z xs node file = asks (decimal z.n) (decimal z.k) (decimal z.d) (decimal z.r) (decimal node) (points_text xs ++ file)

-- what is written for sizes, a board and a file, at points in 32 bytes: the refusals in their order, and else the share's text
pub record PointsFor (z : Sizes) (xs : List ℕ) (node : ℕ) (file written : List ℕ) : Type 0 where
  pub illegal : legal z ≡ false → written ≡ refused_line 1
  pub not_taken : legal z ≡ true → pointed z xs ≡ false → written ≡ refused_line 1
  pub over-16384 : legal z ≡ true → pointed z xs ≡ true → 16384 < length file → written ≡ refused_line 3
  pub over-stripes : legal z ≡ true → pointed z xs ≡ true → 4096 * B z < length file → written ≡ refused_line 3
  pub no-board : legal z ≡ true → pointed z xs ≡ true → length file ≤ 16384 → length file ≤ 4096 * B z → z.n ≤ node → written ≡ refused_line 5
  -- where each board has its number for a point, and where some board has not
  pub seven : legal z ≡ true → pointed z xs ≡ true → length file ≤ 16384 → length file ≤ 4096 * B z → node < z.n
      → ((i : ℕ) → i < z.n → point xs i ≡ i) → written ≡ seven_lines z (length file) node (share z xs file node)
  pub eight : legal z ≡ true → pointed z xs ≡ true → length file ≤ 16384 → length file ≤ 4096 * B z → node < z.n
      → (i : ℕ) → i < z.n → point xs i ≢ i → written ≡ eight_lines z xs (length file) node (share z xs file node)

-- the input begins with the line of n points
pub record PointsStart (n : ℕ) (input : List ℕ) : Type 0 where
  pub told : List ℕ
  pub behind : List ℕ
  pub bytes : Bytes told
  pub long : length told ≡ n
  pub whole : input ≡ points_text told ++ behind

-- the input is five lines and the line of n points in their form, and a file
pub record PointsAsked (input : List ℕ) : Type 0 where
  pub n : List ℕ
  pub k : List ℕ
  pub d : List ℕ
  pub r : List ℕ
  pub node : List ℕ
  pub told : List ℕ
  pub file : List ℕ
  pub numbers : Number n × Number k × Number d × Number r × Number node
  pub bytes : Bytes told
  pub long : length told ≡ value n 0
  pub whole : input ≡ asks n k d r node (points_text told ++ file)

pub record PointsLaws : Type 0 where
  -- "a malformed line gives 1", whichever it is
  pub all-else : (input : List ℕ) → PointsAsked input ⊎ (points_printed input ≡ refused_line 1)
  -- and of every input that has its form it is said what is written, in whatever digits it has its numbers
  pub asked-for : (n k d r node told file : List ℕ) → Number n × Number k × Number d × Number r × Number node → Bytes told → length told ≡ value n 0
      → PointsFor (record { n = value n 0; k = value k 0; d = value d 0; r = value r 0 }) (fit 32 told) (value node 0) file
      (points_printed (asks n k d r node (points_text told ++ file)))
  -- which are those of its decimal: a number has one form
  pub one_form : (l : List ℕ) → Number l → l ≡ decimal (value l 0)
  pub printed-for : (z : Sizes) (xs : List ℕ) (node : ℕ) (file : List ℕ) → Bytes xs → length xs ≡ z.n
      → PointsFor z (fit 32 xs) node file (points_printed (asks_points z xs node file))
  -- another number of pairs than n
  pub other-count : (z : Sizes) (xs : List ℕ) (node : ℕ) (file : List ℕ) → Bytes xs → length xs ≢ z.n
      → points_printed (asks_points z xs node file) ≡ refused_line 1
  -- and so is an input that does not begin with just this line, whatever would follow it
  pub else-refused : (n : ℕ) (input : List ℕ) → PointsStart n input ⊎ ((go : List ℕ → List ℕ → List ℕ) → read_points (refused_line 1) n input go ≡ refused_line 1)
  -- "The earlier programs keep points 0 to n − 1"
  pub in-order : (z : Sizes) (node : ℕ) (file : List ℕ) → legal z ≡ true
      → points_printed (asks_points z (tabulate z.n (λ i. i)) node file)
      ≡ printed (asks (decimal z.n) (decimal z.k) (decimal z.d) (decimal z.r) (decimal node) file)
  pub byte-by-byte : (input : List ℕ) → runs (begin true) [] input ≡ points_printed input
