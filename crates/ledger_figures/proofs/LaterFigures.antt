-- Figures of a careful read and of a move: antt computes them.
-- Assumes nothing.
use mathlib.Core.Path.{refl}
use Rattle.lists.specs.Lists.{piece, put}
use Rattle.gf256.specs.Field.{add, product, reduce, mul, squares, inverse}
use Rattle.sizes.specs.Sizing.{legal, B, stripes}
use Rattle.mbcr.specs.Share.{pointed, stripe, grid, F, neighbours, symbols, kept, share, shares}
use Rattle.mbcr.specs.Rebuild.{seconds, received, exchanged, own_f, own_g, helper_pair, helper_packet, stand_in_packet, g_from, exchange_packet, f_from, finished_stripe, finished_share}
use Rattle.mbcr.specs.Afresh.{kept_afresh, share_afresh}
use Rattle.mbcr.specs.Read.{through, b_column, c_row, a_column, decoded_stripe, decoded_file, read_file}
use Rattle.store_spec.specs.Record.{sound}
use Rattle.store_spec.specs.Packets.{helper_packets, stand_in_packets, exchange_packets, partner_packets, repair_packets, fresh_share}
use Rattle.store_spec.specs.Calls.{write_lines, lose_lines, list_lines, repair_lines, read_lines, set_up_call, write_call, lose_call, repair_call, read_call}
use Rattle.store_spec.specs.Careful.{careful_file, careful_lines, careful_call}
use Rattle.store_spec.specs.Move.{afresh, afresh_area, move_packets, moved_share, move_lines, move_call}
use Rattle.beside_spec.specs.Running.{sound_beside}
use Rattle.beside_spec.specs.Both.{write_lines_both, lose_lines_both, careful_lines_both, write_both, lose_both, careful_both}
use Rattle.beside_spec.specs.Acting.{act}
use Rattle.ledger_figures.specs.LaterFigures.{LaterFigures}

pub later-figures : LaterFigures
unfolding piece put add product reduce mul squares inverse legal B stripes pointed stripe grid F neighbours symbols kept share shares seconds received exchanged own_f
    own_g helper_pair helper_packet stand_in_packet g_from exchange_packet f_from finished_stripe finished_share through b_column c_row a_column decoded_stripe decoded_file
    read_file sound helper_packets stand_in_packets exchange_packets partner_packets repair_packets fresh_share write_lines lose_lines list_lines repair_lines read_lines
    set_up_call write_call lose_call repair_call read_call kept_afresh share_afresh afresh afresh_area move_packets moved_share move_lines move_call act careful_file careful_lines careful_call
    sound_beside write_lines_both lose_lines_both careful_lines_both write_both lose_both careful_both
later-figures = record {
  careful-none = refl;
  careful-odd = refl;
  careful-first = refl;
  careful-two = refl;
  careful-by-four = refl;
  careful-wrong-alike = refl;
  worn-list = refl;
  careful-refusals = refl;
  move-first = refl;
  move-any = refl;
  move-packets = refl;
  move-wide = refl;
  wide-packets = refl;
  move-turn = refl;
  move-refusals = refl;
}
