-- The code's figures: antt computes all but the first.
-- Assumes nothing.
use mathlib.Core.Path.{refl}
use native.Mathlib.Omega.{arith}
use Rattle.lists.specs.Lists.{piece}
use Rattle.gf256.specs.Field.{add, product, reduce, mul, squares, inverse}
use Rattle.sizes.specs.Sizing.{legal, B, stripes}
use Rattle.mbcr.specs.Share.{pointed, stripe, grid, F, neighbours, symbols, kept, share, shares}
use Rattle.mbcr.specs.Rebuild.{seconds, received, exchanged, own_f, own_g, helper_pair, helper_packet, stand_in_packet, g_from, exchange_packet, f_from, finished_stripe, finished_share}
use Rattle.mbcr.specs.Read.{through, b_column, c_row, a_column, decoded_stripe, decoded_file, read_file}
use Rattle.code_figures.specs.CodeFigures.{CodeFigures}

pub figures : CodeFigures
unfolding piece add product reduce mul squares inverse legal B stripes pointed stripe grid F neighbours symbols kept share shares seconds received exchanged own_f own_g
    helper_pair helper_packet stand_in_packet g_from exchange_packet f_from finished_stripe finished_share through b_column c_row a_column decoded_stripe decoded_file read_file
figures = record {
  one-point = λ p. omega (arith, p.differ 0 1 (omega arith) (omega arith) refl);
  points-taken = refl;
  points-refused = refl;
  group-a = refl;
  group-b = refl;
  group-c = refl;
  past-the-last = refl;
  filled-up = refl;
  pair = refl;
  exchange = refl;
  finished = refl;
  stand-in = refl;
  stand-in-alone = refl;
  finished-by-stand-in = refl;
  second-bytes = refl;
  finished-by-exchange = refl;
  read = refl;
  disagrees = refl;
}
