-- The figures: antt computes them.
-- Assumes nothing.
use mathlib.Core.Path.{refl}
use Rattle.number_lines.specs.Steps.{fed}
use Rattle.number_lines.specs.Figures.{LineFigures}

pub figures : LineFigures
unfolding fed
figures = record { one_line = refl; zero = refl; below = refl; bound = refl; malformed = refl }
