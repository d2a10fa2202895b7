-- Figures of a stepped repair: antt computes them.
-- Assumes nothing.
use mathlib.Core.Path.{◌≡◌, refl}
use mathlib.Core.List.{[], ◌∷◌, ◌++◌}
use lib.ListN.{replicate}
use Rattle.ledger_spec.specs.Demand3.{events}
use Rattle.ledger_spec.specs.Premises.{unaltered}
use Rattle.lists.specs.Lists.{piece, put}
use Rattle.gf256.specs.Field.{add, product, reduce, mul, squares, inverse}
use Rattle.sizes.specs.Sizing.{legal, B, stripes}
use Rattle.mbcr.specs.Share.{pointed, stripe, grid, F, neighbours, symbols, kept, share, shares}
use Rattle.mbcr.specs.Rebuild.{seconds, received, exchanged, own_f, own_g, helper_pair, helper_packet, stand_in_packet, g_from, exchange_packet, f_from, finished_stripe, finished_share}
use Rattle.mbcr.specs.Read.{through, b_column, c_row, a_column, decoded_stripe, decoded_file, read_file}
use Rattle.store_spec.specs.Record.{sound}
use Rattle.store_spec.specs.Packets.{helper_packets, stand_in_packets, exchange_packets, partner_packets, repair_packets, fresh_share}
use Rattle.store_spec.specs.Calls.{write_lines, lose_lines, list_lines, repair_lines, read_lines}
use Rattle.store_spec.specs.Edit.{edit_lines}
use Rattle.beside_spec.specs.Running.{sound_beside, running_by}
use Rattle.store_spec.specs.FurtherFigures.{helpers, spoiled}
use Rattle.beside_spec.specs.Lying.{helpers_lying, exchanges_made, partners_lying, share_lying, packets_now}
use Rattle.beside_spec.specs.Both.{write_lines_both, lose_lines_both, repair_lines_both, read_lines_both, edit_lines_both, step_lines, set_up_both, write_both, lose_both, repair_both, read_both, edit_both, start_call}
use Rattle.beside_spec.specs.Both.{step_call}
use Rattle.ledger_spec.specs.Ledger.{repair_asked, book_lines, accept, enter, replies, book_replies}
use Rattle.beside_spec.specs.Acting.{act}
use Rattle.ledger_figures.specs.StepFigures.{newly, opened, happened, told, lying, lost, altered, StepFigures}

store-replies : replies newly (unaltered newly opened happened) ≡ told
unfolding piece put add product reduce mul squares inverse legal B stripes pointed stripe grid F neighbours symbols kept share shares seconds received exchanged own_f
    own_g helper_pair helper_packet stand_in_packet g_from exchange_packet f_from finished_stripe finished_share through b_column c_row a_column decoded_stripe decoded_file
    read_file sound helper_packets stand_in_packets exchange_packets partner_packets repair_packets fresh_share write_lines lose_lines list_lines repair_lines read_lines edit_lines sound_beside
    helpers_lying exchanges_made partners_lying share_lying packets_now write_lines_both lose_lines_both repair_lines_both read_lines_both edit_lines_both step_lines set_up_both write_both
    lose_both repair_both read_both edit_both start_call step_call repair_asked book_lines accept enter act
store-replies = refl

book-replies : book_replies opened (events (unaltered newly opened happened)) ≡ told
unfolding piece put add product reduce mul squares inverse legal B stripes pointed stripe grid F neighbours symbols kept share shares seconds received exchanged own_f
    own_g helper_pair helper_packet stand_in_packet g_from exchange_packet f_from finished_stripe finished_share through b_column c_row a_column decoded_stripe decoded_file
    read_file sound helper_packets stand_in_packets exchange_packets partner_packets repair_packets fresh_share write_lines lose_lines list_lines repair_lines read_lines edit_lines sound_beside
    helpers_lying exchanges_made partners_lying share_lying packets_now write_lines_both lose_lines_both repair_lines_both read_lines_both edit_lines_both step_lines set_up_both write_both
    lose_both repair_both read_both edit_both start_call step_call repair_asked book_lines accept enter act
book-replies = refl

packets-lying : lying ≡ replicate 6 0 ++ (0x04 ∷ 0x02 ∷ 0x05 ∷ 0x03 ∷ 0x10 ∷ 0x04 ∷ 0x00 ∷ 0xEE ∷ [])
unfolding piece put add product reduce mul squares inverse legal B stripes pointed stripe grid F neighbours symbols kept share shares seconds received exchanged own_f
    own_g helper_pair helper_packet stand_in_packet g_from exchange_packet f_from finished_stripe finished_share through b_column c_row a_column decoded_stripe decoded_file
    read_file sound helper_packets stand_in_packets exchange_packets partner_packets repair_packets fresh_share write_lines lose_lines list_lines repair_lines read_lines edit_lines sound_beside
    helpers_lying exchanges_made partners_lying share_lying packets_now write_lines_both lose_lines_both repair_lines_both read_lines_both edit_lines_both step_lines set_up_both write_both
    lose_both repair_both read_both edit_both start_call step_call repair_asked book_lines accept enter act
packets-lying = refl

exchange-lying : (step_call lost (running_by (0 ∷ 1 ∷ []) helpers [] 6) spoiled altered 1).packets
    ≡ replicate 6 0 ++ (0x09 ∷ 0x01 ∷ 0x09 ∷ 0x02 ∷ 0x09 ∷ 0x03 ∷ 0x09 ∷ 0xEE ∷ [])
unfolding piece put add product reduce mul squares inverse legal B stripes pointed stripe grid F neighbours symbols kept share shares seconds received exchanged own_f
    own_g helper_pair helper_packet stand_in_packet g_from exchange_packet f_from finished_stripe finished_share through b_column c_row a_column decoded_stripe decoded_file
    read_file sound helper_packets stand_in_packets exchange_packets partner_packets repair_packets fresh_share write_lines lose_lines list_lines repair_lines read_lines edit_lines sound_beside
    helpers_lying exchanges_made partners_lying share_lying packets_now write_lines_both lose_lines_both repair_lines_both read_lines_both edit_lines_both step_lines set_up_both write_both
    lose_both repair_both read_both edit_both start_call step_call repair_asked book_lines accept enter act
exchange-lying = refl

pub step-figures : StepFigures
step-figures = record { store-replies = store-replies; book-replies = book-replies; packets-lying = packets-lying; exchange-lying = exchange-lying }
