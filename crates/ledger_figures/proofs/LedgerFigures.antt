-- The ledger's figures, and those of repairs with stand-ins: antt computes them.
-- Assumes nothing.
use mathlib.Core.Path.{◌≡◌, refl}
use mathlib.Core.List.{[], ◌∷◌}
use mathlib.Core.Option.{some, none}
use Rattle.ledger_spec.specs.Demand3.{events}
use Rattle.store_spec.specs.FurtherFigures.{five, five_file}
use Rattle.lists.specs.Lists.{piece, put}
use Rattle.gf256.specs.Field.{add, product, reduce, mul, squares, inverse}
use Rattle.sizes.specs.Sizing.{legal, B, stripes}
use Rattle.mbcr.specs.Share.{pointed, stripe, grid, F, neighbours, symbols, kept, share, shares}
use Rattle.mbcr.specs.Rebuild.{seconds, received, exchanged, own_f, own_g, helper_pair, helper_packet, stand_in_packet, g_from, exchange_packet, f_from, finished_stripe, finished_share}
use Rattle.mbcr.specs.Read.{through, b_column, c_row, a_column, decoded_stripe, decoded_file, read_file}
use Rattle.store_spec.specs.Record.{sound}
use Rattle.store_spec.specs.Packets.{helper_packets, stand_in_packets, exchange_packets, partner_packets, repair_packets, fresh_share}
use Rattle.store_spec.specs.Calls.{write_lines, lose_lines, list_lines, repair_lines, read_lines, set_up_call, write_call, lose_call, repair_call, read_call}
use Rattle.beside_spec.specs.Running.{sound_beside}
use Rattle.beside_spec.specs.Both.{write_lines_both, lose_lines_both, repair_lines_both, read_lines_both, set_up_both, write_both, lose_both, repair_both, read_both}
use Rattle.ledger_spec.specs.Ledger.{Allowed, replies, book_replies, book_final, repair_asked, book_lines, accept, enter}
use Rattle.beside_spec.specs.Acting.{act}
use Rattle.ledger_spec.proofs.Tested.{allow}
use Rattle.ledger_figures.specs.LedgerFigures.{start, opened, steps, told, LedgerFigures}
use Rattle.ledger_figures.specs.RepairFigures.{RepairFigures}

allowed : Allowed start opened steps
unfolding piece put add product reduce mul squares inverse legal B stripes pointed stripe grid F neighbours symbols kept share shares seconds received exchanged own_f
    own_g helper_pair helper_packet stand_in_packet g_from exchange_packet f_from finished_stripe finished_share through b_column c_row a_column decoded_stripe decoded_file
    read_file sound helper_packets stand_in_packets exchange_packets partner_packets repair_packets fresh_share write_lines lose_lines list_lines repair_lines read_lines set_up_call write_call lose_call
    repair_call read_call sound_beside write_lines_both lose_lines_both repair_lines_both read_lines_both set_up_both write_both lose_both repair_both read_both repair_asked book_lines accept enter act
allowed = allow start opened steps refl

book-replies : book_replies opened (events steps) ≡ told
unfolding piece put add product reduce mul squares inverse legal B stripes pointed stripe grid F neighbours symbols kept share shares seconds received exchanged own_f
    own_g helper_pair helper_packet stand_in_packet g_from exchange_packet f_from finished_stripe finished_share through b_column c_row a_column decoded_stripe decoded_file
    read_file sound helper_packets stand_in_packets exchange_packets partner_packets repair_packets fresh_share write_lines lose_lines list_lines repair_lines read_lines set_up_call write_call lose_call
    repair_call read_call sound_beside write_lines_both lose_lines_both repair_lines_both read_lines_both set_up_both write_both lose_both repair_both read_both repair_asked book_lines accept enter act
book-replies = refl

store-replies : replies start steps ≡ told
unfolding piece put add product reduce mul squares inverse legal B stripes pointed stripe grid F neighbours symbols kept share shares seconds received exchanged own_f
    own_g helper_pair helper_packet stand_in_packet g_from exchange_packet f_from finished_stripe finished_share through b_column c_row a_column decoded_stripe decoded_file
    read_file sound helper_packets stand_in_packets exchange_packets partner_packets repair_packets fresh_share write_lines lose_lines list_lines repair_lines read_lines set_up_call write_call lose_call
    repair_call read_call sound_beside write_lines_both lose_lines_both repair_lines_both read_lines_both set_up_both write_both lose_both repair_both read_both repair_asked book_lines accept enter act
store-replies = refl

book-after : book_final opened (events steps)
    ≡ record { sizes = five; points = opened.points; capacity = 1; area_length = 35; file = some five_file; service = 0 ∷ 2 ∷ 3 ∷ 4 ∷ []; repairing = none }
unfolding piece put add product reduce mul squares inverse legal B stripes pointed stripe grid F neighbours symbols kept share shares seconds received exchanged own_f
    own_g helper_pair helper_packet stand_in_packet g_from exchange_packet f_from finished_stripe finished_share through b_column c_row a_column decoded_stripe decoded_file
    read_file sound helper_packets stand_in_packets exchange_packets partner_packets repair_packets fresh_share write_lines lose_lines list_lines repair_lines read_lines set_up_call write_call lose_call
    repair_call read_call sound_beside write_lines_both lose_lines_both repair_lines_both read_lines_both set_up_both write_both lose_both repair_both read_both repair_asked book_lines accept enter act
book-after = refl

pub ledger-figures : LedgerFigures
ledger-figures = record { allowed = allowed; book-replies = book-replies; store-replies = store-replies; book-after = book-after }

pub repair-figures : RepairFigures
unfolding piece put add product reduce mul squares inverse legal B stripes pointed stripe grid F neighbours symbols kept share shares seconds received exchanged own_f
    own_g helper_pair helper_packet stand_in_packet g_from exchange_packet f_from finished_stripe finished_share through b_column c_row a_column decoded_stripe decoded_file
    read_file sound helper_packets stand_in_packets exchange_packets partner_packets repair_packets fresh_share write_lines lose_lines list_lines repair_lines read_lines set_up_call write_call lose_call
    repair_call read_call
repair-figures = record {
  stand-in-packets = refl;
  stand-in-senders = refl;
  stand-in-repair = refl;
  mixed-packets = refl;
  mixed-senders = refl;
  mixed-repair = refl;
  mixed-runs = refl;
  stands-in-twice = refl;
  second-refused = refl;
}
