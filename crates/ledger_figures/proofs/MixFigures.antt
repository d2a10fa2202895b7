-- Figures of careful reads and moves beside a stepped repair: antt computes them.
-- Assumes nothing.
use mathlib.Core.Path.{◌≡◌, refl}
use Rattle.ledger_spec.specs.Demand3.{events}
use Rattle.ledger_spec.specs.Premises.{unaltered}
use Rattle.lists.specs.Lists.{piece, put}
use Rattle.gf256.specs.Field.{add, product, reduce, mul, squares, inverse}
use Rattle.sizes.specs.Sizing.{legal, B, stripes}
use Rattle.mbcr.specs.Share.{pointed, stripe, grid, F, neighbours, symbols, kept, share, shares}
use Rattle.mbcr.specs.Rebuild.{seconds, received, exchanged, own_f, own_g, helper_pair, helper_packet, stand_in_packet, g_from, exchange_packet, f_from, finished_stripe, finished_share}
use Rattle.mbcr.specs.Read.{through, b_column, c_row, a_column, decoded_stripe, decoded_file, read_file}
use Rattle.store_spec.specs.Record.{sound}
use Rattle.store_spec.specs.Packets.{helper_packets, stand_in_packets, exchange_packets, partner_packets, repair_packets, fresh_share}
use Rattle.store_spec.specs.Calls.{write_lines, lose_lines, list_lines, repair_lines, read_lines}
use Rattle.store_spec.specs.Edit.{edit_lines}
use Rattle.store_spec.specs.Careful.{careful_file, careful_lines}
use Rattle.store_spec.specs.Move.{afresh, afresh_area, move_packets, moved_share, move_lines}
use Rattle.mbcr.specs.Afresh.{kept_afresh, share_afresh}
use Rattle.beside_spec.specs.Running.{sound_beside}
use Rattle.beside_spec.specs.Lying.{helpers_lying, exchanges_made, partners_lying, share_lying, packets_now}
use Rattle.beside_spec.specs.Both.{write_lines_both, lose_lines_both, repair_lines_both, read_lines_both, edit_lines_both, careful_lines_both, move_lines_both, step_lines}
use Rattle.beside_spec.specs.Both.{set_up_both, write_both, lose_both, repair_both, read_both, edit_both, careful_both, move_both, start_call, step_call}
use Rattle.ledger_spec.specs.Ledger.{repair_asked, book_lines, accept, enter, replies, book_replies}
use Rattle.beside_spec.specs.Acting.{act}
use Rattle.ledger_figures.specs.MixFigures.{newly, opened, happened, told, MixFigures}

store-replies : replies newly (unaltered newly opened happened) ≡ told
unfolding piece put add product reduce mul squares inverse legal B stripes pointed stripe grid F neighbours symbols kept share shares seconds received exchanged own_f
    own_g helper_pair helper_packet stand_in_packet g_from exchange_packet f_from finished_stripe finished_share through b_column c_row a_column decoded_stripe decoded_file
    read_file sound helper_packets stand_in_packets exchange_packets partner_packets repair_packets fresh_share write_lines lose_lines list_lines repair_lines read_lines edit_lines sound_beside
    helpers_lying exchanges_made partners_lying share_lying packets_now write_lines_both lose_lines_both repair_lines_both read_lines_both edit_lines_both step_lines set_up_both write_both
    lose_both repair_both read_both edit_both start_call step_call repair_asked book_lines accept enter act
    kept_afresh share_afresh afresh afresh_area move_packets moved_share move_lines careful_file careful_lines careful_lines_both move_lines_both careful_both move_both
store-replies = refl

book-replies : book_replies opened (events (unaltered newly opened happened)) ≡ told
unfolding piece put add product reduce mul squares inverse legal B stripes pointed stripe grid F neighbours symbols kept share shares seconds received exchanged own_f
    own_g helper_pair helper_packet stand_in_packet g_from exchange_packet f_from finished_stripe finished_share through b_column c_row a_column decoded_stripe decoded_file
    read_file sound helper_packets stand_in_packets exchange_packets partner_packets repair_packets fresh_share write_lines lose_lines list_lines repair_lines read_lines edit_lines sound_beside
    helpers_lying exchanges_made partners_lying share_lying packets_now write_lines_both lose_lines_both repair_lines_both read_lines_both edit_lines_both step_lines set_up_both write_both
    lose_both repair_both read_both edit_both start_call step_call repair_asked book_lines accept enter act
    kept_afresh share_afresh afresh afresh_area move_packets moved_share move_lines careful_file careful_lines careful_lines_both move_lines_both careful_both move_both
book-replies = refl

pub mix-figures : MixFigures
mix-figures = record { store-replies = store-replies; book-replies = book-replies }
