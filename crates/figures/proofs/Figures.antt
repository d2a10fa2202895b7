-- The figures marked M, and those with k = 2: M4 is a law of the field, antt computes the others.
-- Assumes nothing.
use mathlib.Core.Path.{refl}
use Rattle.lists.specs.Lists.{piece, put}
use Rattle.gf256.specs.Field.{add, product, reduce, mul, squares, inverse}
use Rattle.gf256.proofs.Field.{zero-mul}
use Rattle.sizes.specs.Sizing.{legal, B, stripes}
use Rattle.mbcr.specs.Share.{pointed, stripe, grid, F, neighbours, symbols, kept, share, shares}
use Rattle.mbcr.specs.Rebuild.{seconds, received, exchanged, own_f, own_g, helper_pair, helper_packet, stand_in_packet, g_from, exchange_packet, f_from, finished_stripe, finished_share}
use Rattle.mbcr.specs.Read.{through, b_column, c_row, a_column, decoded_stripe, decoded_file, read_file}
use Rattle.store_spec.specs.Record.{sound}
use Rattle.store_spec.specs.Packets.{helper_packets, stand_in_packets, exchange_packets, partner_packets, repair_packets, fresh_share}
use Rattle.store_spec.specs.Calls.{write_lines, lose_lines, list_lines, repair_lines, read_lines, set_up_call, write_call, lose_call, repair_call, read_call}
use Rattle.board_spec.specs.Calls.{file_lines, file_call}
use Rattle.figures.specs.MarkedFigures.{MarkedFigures}
use Rattle.figures.specs.LongFigures.{LongFigures}

pub figures : MarkedFigures
unfolding piece put add product reduce mul squares inverse legal B stripes pointed stripe grid F neighbours symbols kept share shares seconds received exchanged own_f
    own_g helper_pair helper_packet stand_in_packet g_from exchange_packet f_from finished_stripe finished_share sound helper_packets stand_in_packets exchange_packets partner_packets repair_packets write_lines
    write_call
figures = record {
  m1 = refl;
  m2 = refl;
  m3 = refl;
  m4 = zero-mul;
  m5 = refl;
  m6 = refl;
  sizes = (refl, refl);
  m7 = refl;
  m8 = refl;
  m9 = refl;
  m10 = refl;
  m11 = refl;
  m7-to-m11 = refl;
  m12-gets = refl;
  m12-moved = refl;
}

pub long-figures : LongFigures
unfolding piece put add product reduce mul squares inverse legal B stripes pointed stripe grid F neighbours symbols kept share shares seconds received exchanged own_f
    own_g helper_pair helper_packet stand_in_packet g_from exchange_packet f_from finished_stripe finished_share through b_column c_row a_column decoded_stripe decoded_file
    read_file sound helper_packets stand_in_packets exchange_packets partner_packets repair_packets fresh_share write_lines lose_lines list_lines repair_lines read_lines set_up_call write_call lose_call
    repair_call read_call file_lines file_call
long-figures = record {
  file-disagrees = refl;
  file-read = refl;
  points-read = refl;
  store-disagrees = refl;
  store-read = refl;
  losses = refl;
  repaired = refl;
  own-helpers = refl;
  own-partners = refl;
  own-packets = refl;
  own-exchanged = refl;
}
