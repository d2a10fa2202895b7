-- What holds of the line of points, for any kind of answer: which bytes are digits, and read byte by byte it is the same line. (That it is taken in
-- its form, and in no other: points_print/specs/Laws.antt.)
-- Assumes nothing.
use Rattle.std.specs.Prelude.{◌≡◌, true, ◌⊎◌, List, ℕ, ◌≤◌}
use Rattle.lists.specs.Lists.{fit}
use Rattle.point_lines.specs.declared.PointReader.{PointReader}
use Rattle.point_lines.specs.Lines.{hexadecimal, read_points}
use Rattle.point_lines.specs.Steps.{begin, reads}

pub record PointLaws : Type 1 where
  -- a digit is one of 0 to 9 and a to f
  pub digits : (b : ℕ) → hexadecimal b ≡ true → ((0x30 ≤ b) × (b ≤ 0x39)) ⊎ ((0x61 ≤ b) × (b ≤ 0x66))
  -- n boards have at most 32 points, which stand in 32 bytes with 00 from n up
  pub byte-by-byte : {A : Type 0} (bad : A) (n : ℕ) → n ≤ 32 → (go : List ℕ → List ℕ → A) (input : List ℕ)
      → reads bad n begin input go ≡ read_points bad n input (λ xs rest. go (fit 32 xs) rest)
  -- where whatever follows is malformed, so is the line, for any n and from any reader
  pub all-malformed : {A : Type 0} (bad : A) (n : ℕ) (go : List ℕ → List ℕ → A) → ((xs rest : List ℕ) → go xs rest ≡ bad)
      → (input : List ℕ) → (read_points bad n input go ≡ bad) × ((r : PointReader) → reads bad n r input go ≡ bad)
