-- Request A.9, 'First-series robots': "A further printer always takes that line after node=". From the whole input to the whole output: the share
-- printer's five lines, the line points= with n pairs, then the file's bytes to the end. It writes the share's text at these points, which has the
-- line "just where the points are not 0 to n − 1 in order", or the line of a refusal.
-- Assumes nothing.
use Rattle.std.specs.Prelude.{List, ℕ}
use Rattle.lists.specs.Lists.{fit}
use Rattle.sizes.specs.Sizing.{max_boards}
use Rattle.point_lines.specs.Lines.{read_points}
use Rattle.printer.specs.Printer.{refused_line, answered, five_lines}

-- a malformed line gives 1, whatever follows; the points stand in 32 bytes, "00 kept for a number from n up"
unfoldable pub points_printed : List ℕ → List ℕ
points_printed input =
    five_lines (refused_line 1) input (λ z node input. read_points (refused_line 1) z.n input (λ xs file. answered z (fit max_boards xs) node file))
