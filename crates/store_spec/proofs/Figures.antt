-- The store's figures: antt computes them.
-- Assumes nothing.
use mathlib.Core.Path.{refl}
use Rattle.lists.specs.Lists.{piece, put}
use Rattle.gf256.specs.Field.{add, product, reduce, mul, squares, inverse}
use Rattle.sizes.specs.Sizing.{legal, B, stripes}
use Rattle.mbcr.specs.Share.{pointed, stripe, grid, F, neighbours, symbols, kept, share, shares}
use Rattle.mbcr.specs.Rebuild.{seconds, received, exchanged, own_f, own_g, helper_pair, helper_packet, stand_in_packet, g_from, exchange_packet, f_from, finished_stripe, finished_share}
use Rattle.mbcr.specs.Read.{through, b_column, c_row, a_column, decoded_stripe, decoded_file, read_file}
use Rattle.store_spec.specs.Record.{sound}
use Rattle.store_spec.specs.Packets.{helper_packets, stand_in_packets, exchange_packets, partner_packets, repair_packets, fresh_share}
use Rattle.store_spec.specs.Calls.{write_lines, lose_lines, list_lines, repair_lines, read_lines, set_up_call, write_call, lose_call, repair_call, read_call}
use Rattle.store_spec.specs.FurtherFigures.{FurtherFigures}

pub further-figures : FurtherFigures
unfolding piece put add product reduce mul squares inverse legal B stripes pointed stripe grid F neighbours symbols kept share shares seconds received exchanged own_f
    own_g helper_pair helper_packet stand_in_packet g_from exchange_packet f_from finished_stripe finished_share through b_column c_row a_column decoded_stripe decoded_file
    read_file sound helper_packets stand_in_packets exchange_packets partner_packets repair_packets fresh_share write_lines lose_lines list_lines repair_lines read_lines set_up_call write_call lose_call
    repair_call read_call
further-figures = record {
  sound-records = refl;
  unsound-records = refl;
  pointed-records = refl;
  unpointed-records = refl;
  set-up-points = refl;
  set-up-unpointed = refl;
  points-write = refl;
  points-losses = refl;
  points-repair = refl;
  points-packets = refl;
  points-read = refl;
  set-up-new = refl;
  set-up-refused = refl;
  write-refusals = refl;
  size-cases = refl;
  lose-refusals = refl;
  repair-refusals = refl;
  read-refusals = refl;
  repair-runs = refl;
  stand-in-runs = refl;
  refused-write = refl;
  refused-repair = refl;
  refused-serving = refl;
  losses = refl;
  repaired = refl;
  read_back = refl;
  own-helpers = refl;
  own-partners = refl;
  own-packets = refl;
  write-places = refl;
  repair-places = refl;
}
