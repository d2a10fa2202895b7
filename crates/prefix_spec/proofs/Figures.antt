-- The figures of `longest`: antt computes them.
-- Assumes nothing.
use mathlib.Core.Path.{refl}
use Rattle.sizes.specs.Sizing.{B, stripes}
use Rattle.prefix_spec.specs.Prefix.{opens, points_on, longest}
use Rattle.prefix_spec.specs.Figures.{PrefixFigures}

pub figures : PrefixFigures
unfolding B stripes opens points_on longest
figures = record {
  first-bytes = refl;
  boards = refl;
  helpers = refl;
  many-helpers = refl;
  fresh = refl;
  file = refl;
  node = refl;
  longest-file = refl;
  two-points = refl;
  sixteen = refl;
  seventeen = refl;
  thirty_two = refl;
  share = refl;
}
