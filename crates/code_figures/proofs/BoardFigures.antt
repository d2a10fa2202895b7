-- The board-level figures: antt computes them.
-- Assumes nothing.
use mathlib.Core.Path.{refl}
use Rattle.lists.specs.Lists.{piece}
use Rattle.gf256.specs.Field.{add, product, reduce, mul, squares, inverse}
use Rattle.sizes.specs.Sizing.{legal, B, stripes}
use Rattle.mbcr.specs.Share.{pointed, stripe, grid, F, neighbours, symbols, kept, share, shares}
use Rattle.mbcr.specs.Rebuild.{received, exchanged, own_f, own_g, helper_pair, helper_packet, g_from, exchange_packet, f_from, finished_stripe, finished_share}
use Rattle.mbcr.specs.Read.{through, b_column, c_row, a_column, decoded_stripe, decoded_file, read_file}
use Rattle.board_spec.specs.Text.{decimal, points_line, share_text}
use Rattle.board_spec.specs.Calls.{share_lines, share_call, file_lines, file_call, helper_lines, helper_call, exchange_lines, exchange_call, finished_lines, finished_call, text_lines, text_call}
use Rattle.code_figures.specs.BoardFigures.{BoardFigures}

pub figures : BoardFigures
unfolding piece add product reduce mul squares inverse legal B stripes pointed stripe grid F neighbours symbols kept share shares received exchanged own_f own_g
    helper_pair helper_packet g_from exchange_packet f_from finished_stripe finished_share through b_column c_row a_column decoded_stripe decoded_file read_file
    decimal points_line share_text share_lines share_call file_lines file_call helper_lines helper_call exchange_lines exchange_call finished_lines finished_call text_lines
    text_call
figures = record {
  legal-sizes = refl;
  illegal-sizes = refl;
  points-accepted = refl;
  points-refused = refl;
  points-first = refl;
  points-shares = refl;
  points-packet = refl;
  points-exchange = refl;
  points-finished = refl;
  points-file = refl;
  share-refusals = refl;
  file-refusals = refl;
  helper-refusals = refl;
  exchange-refusals = refl;
  finished-refusals = refl;
  text-refusals = refl;
  refused-stays = refl;
  file-read = refl;
  finished-written = refl;
  stripe-counts = refl;
  longest = refl;
  own-runs = refl;
  finish-runs = refl;
  exchange-runs = refl;
  read-runs = refl;
  read-runs-of-three = refl;
  equal-points = refl;
  two-stripes = refl;
  two-pairs = refl;
  two-exchanged = refl;
  text = refl;
  points-text = refl;
  longer-text = refl;
}
