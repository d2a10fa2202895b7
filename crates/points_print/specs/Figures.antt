-- Figures of the points printer over its definition, with numbers that all differ: points that are not in order, those of document 01, and each
-- reason to refuse. What is written at other points is worked out by the unrelated coder of tests/coder.
-- Assumes nothing.
use Rattle.std.specs.Prelude.{◌≡◌, List, [], ◌∷◌, ◌++◌, map, ℕ, suc, replicate}
use Rattle.lists.specs.Lists.{tabulate, joined}
use Rattle.board_spec.specs.Text.{hex_pair, text_line}
use Rattle.printer.specs.Laws.{asks}
use Rattle.printer.specs.Printer.{refused_line}
use Rattle.points_print.specs.PointsPrinter.{points_printed}
use Rattle.points_print.specs.Laws.{points_text}

-- n=9, k=2, d=4, r=3, node=5, and what is behind: B is 18
abbrev differing : List ℕ → List ℕ
differing rest = asks (0x39 ∷ []) (0x32 ∷ []) (0x34 ∷ []) (0x33 ∷ []) (0x35 ∷ []) rest

-- nine points, none of which is a board's number
abbrev nine : List ℕ
nine = 0x1A ∷ 0x2B ∷ 0x3C ∷ 0x4D ∷ 0x5E ∷ 0x6F ∷ 0x70 ∷ 0x81 ∷ 0x9F ∷ []

-- bytes 01 to 14, two stripes
abbrev bytes : List ℕ
bytes = tabulate 20 suc

abbrev length_line : List ℕ
length_line = text_line (0x6C ∷ 0x65 ∷ 0x6E ∷ 0x67 ∷ 0x74 ∷ 0x68 ∷ []) (0x32 ∷ 0x30 ∷ [])

abbrev data_line : List ℕ → List ℕ
data_line share = text_line (0x64 ∷ 0x61 ∷ 0x74 ∷ 0x61 ∷ []) (joined hex_pair share)

-- the line of the nine points with an upper-case digit
abbrev upper_case : List ℕ
upper_case = text_line (0x70 ∷ 0x6F ∷ 0x69 ∷ 0x6E ∷ 0x74 ∷ 0x73 ∷ [])
    (0x31 ∷ 0x41 ∷ joined hex_pair (0x2B ∷ 0x3C ∷ 0x4D ∷ 0x5E ∷ 0x6F ∷ 0x70 ∷ 0x81 ∷ 0x9F ∷ []))

pub record PointsFigures : Type 0 where
  -- the line is written behind length=, and the share is the one at these points
  pub all-differ : points_printed (differing (points_text nine ++ bytes))
      ≡ differing (length_line ++ points_text nine ++ data_line
      (0xDF ∷ 0xDD ∷ 0xCC ∷ 0x4B ∷ 0xA3 ∷ 0x2D ∷ 0x8A ∷ 0x8A ∷ 0x86 ∷ 0x90
      ∷ 0x0C ∷ 0x9D ∷ 0xD5 ∷ 0x50 ∷ 0xC6 ∷ 0x35 ∷ 0x04 ∷ 0x0C ∷ 0x0C ∷ 0x0C ∷ []))
  -- document 01's points are taken, and have no line
  pub identity : points_printed (differing (points_text (tabulate 9 (λ i. i)) ++ bytes))
      ≡ differing (length_line ++ data_line
      (0xAA ∷ 0x12 ∷ 0x0A ∷ 0x50 ∷ 0x9D ∷ 0x26 ∷ 0x9B ∷ 0x5D ∷ 0x27 ∷ 0x2F
      ∷ 0x57 ∷ 0x6B ∷ 0x7F ∷ 0xB3 ∷ 0x13 ∷ 0x07 ∷ 0x3B ∷ 0x57 ∷ 0x57 ∷ 0x57 ∷ []))
  -- no line of points, one pair too few, one too many, half a pair too many, an upper-case digit, byte 0D, the line before node=, the pairs without
  -- their name, no byte 0A at the end
  pub malformed : map points_printed
      (differing bytes
      ∷ differing (points_text (0x1A ∷ 0x2B ∷ 0x3C ∷ 0x4D ∷ 0x5E ∷ 0x6F ∷ 0x70 ∷ 0x81 ∷ []) ++ bytes)
      ∷ differing (points_text (nine ++ (0xA3 ∷ [])) ++ bytes)
      ∷ differing (text_line (0x70 ∷ 0x6F ∷ 0x69 ∷ 0x6E ∷ 0x74 ∷ 0x73 ∷ []) (joined hex_pair nine ++ (0x30 ∷ [])) ++ bytes)
      ∷ differing (upper_case ++ bytes)
      ∷ differing (text_line (0x70 ∷ 0x6F ∷ 0x69 ∷ 0x6E ∷ 0x74 ∷ 0x73 ∷ []) (joined hex_pair nine ++ (0x0D ∷ [])) ++ bytes)
      ∷ (text_line (0x6E ∷ []) (0x39 ∷ []) ++ text_line (0x6B ∷ []) (0x32 ∷ []) ++ text_line (0x64 ∷ []) (0x34 ∷ []) ++ text_line (0x72 ∷ []) (0x33 ∷ [])
      ++ points_text nine ++ text_line (0x6E ∷ 0x6F ∷ 0x64 ∷ 0x65 ∷ []) (0x35 ∷ []) ++ bytes)
      ∷ differing (joined hex_pair nine)
      ∷ differing ((0x70 ∷ 0x6F ∷ 0x69 ∷ 0x6E ∷ 0x74 ∷ 0x73 ∷ 0x3D ∷ []) ++ joined hex_pair nine)
      ∷ [])
      ≡ replicate 9 (refused_line 1)
  -- a point twice, with 16,385 bytes too; 33 boards with 33 points
  pub not_taken : map points_printed
      (differing (points_text (0x1A ∷ 0x2B ∷ 0x3C ∷ 0x4D ∷ 0x1A ∷ 0x6F ∷ 0x70 ∷ 0x81 ∷ 0x9F ∷ []) ++ bytes)
      ∷ differing (points_text (replicate 9 0x1A) ++ replicate 16385 0)
      ∷ asks (0x33 ∷ 0x33 ∷ []) (0x32 ∷ []) (0x34 ∷ []) (0x33 ∷ []) (0x35 ∷ []) (points_text (tabulate 33 suc) ++ bytes)
      ∷ [])
      ≡ replicate 3 (refused_line 1)
  -- one byte too many, with a board of n or more too; an upper-case digit comes first
  pub long : map points_printed
      (differing (points_text nine ++ replicate 16385 0)
      ∷ asks (0x39 ∷ []) (0x32 ∷ []) (0x34 ∷ []) (0x33 ∷ []) (0x39 ∷ []) (points_text nine ++ replicate 16385 0)
      ∷ differing (upper_case ++ replicate 16385 0)
      ∷ [])
      ≡ refused_line 3 ∷ refused_line 3 ∷ refused_line 1 ∷ []
  pub no-board : points_printed (asks (0x39 ∷ []) (0x32 ∷ []) (0x34 ∷ []) (0x33 ∷ []) (0x39 ∷ []) (points_text nine ++ bytes)) ≡ refused_line 5
