-- The figures of specs/Figures.antt, computed.
-- Assumes nothing.
use mathlib.Core.Path.{refl}
use Rattle.sizes.specs.Sizing.{B}
use Rattle.board_spec.specs.Text.{decimal}
use Rattle.size_list.specs.Combinations.{combinations, row, limit, listed}
use Rattle.size_list.specs.Figures.{ListFigures}

pub list-figures : ListFigures
unfolding combinations row limit listed decimal B
list-figures = record { one-row = refl; up-to-three = refl; whole = refl; told = refl; limits = refl; refused = refl; refusal = refl }
