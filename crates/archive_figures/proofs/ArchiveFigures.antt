-- The archive's figures: antt computes them.
-- Assumes nothing.
use mathlib.Core.Path.{◌≡◌, refl}
use mathlib.Core.Bool.{Bool, true, false}
use mathlib.Core.List.{List, [], ◌∷◌}
use lib.Dec.{eqb}
use lib.ListN.{length}
use borrow.Author.Tests.{eqb-true}
use Rattle.lists.specs.Tests.{pick, alls, below}
use Rattle.lists.proofs.Tests.{both, alls-hold}
use Rattle.lists.proofs.Boards.{below_all}
use Rattle.lists.specs.Lists.{piece, put}
use Rattle.gf256.specs.Field.{add, product, reduce, mul, squares, inverse}
use Rattle.sizes.specs.Sizing.{legal, B, stripes}
use Rattle.mbcr.specs.Share.{pointed, stripe, grid, F, neighbours, symbols, kept, share, shares}
use Rattle.mbcr.specs.Rebuild.{seconds, stand_in_packet, received, exchanged, own_f, own_g, helper_pair, helper_packet, g_from, exchange_packet, f_from, finished_stripe, finished_share}
use Rattle.mbcr.specs.Read.{through, b_column, c_row, a_column, decoded_stripe, decoded_file, read_file}
use Rattle.mbcr.specs.Afresh.{kept_afresh, share_afresh}
use Rattle.store_spec.specs.Record.{sound}
use Rattle.store_spec.specs.Packets.{helper_packets, stand_in_packets, exchange_packets, partner_packets, repair_packets, fresh_share}
use Rattle.beside_spec.specs.Lying.{helpers_lying, partners_lying, exchanges_made, share_lying, packets_now}
use Rattle.store_spec.specs.Calls.{write_lines, lose_lines, list_lines, repair_lines, read_lines}
use Rattle.store_spec.specs.Careful.{careful_file, careful_lines}
use Rattle.beside_spec.specs.Running.{Running, sound_beside}
use Rattle.beside_spec.specs.Both.{write_lines_both, lose_lines_both, repair_lines_both, read_lines_both, careful_lines_both, step_lines}
use Rattle.beside_spec.specs.Both.{set_up_both, write_both, lose_both, repair_both, read_both, careful_both, start_call, step_call, move_lines_both, move_both}
use Rattle.beside_spec.specs.HandedLaws.{Arrays}
use Rattle.store_spec.specs.Move.{afresh, afresh_area, move_packets, moved_share, move_lines}
use Rattle.ledger_spec.specs.Ledger.{Book, Event, call, power_fails, Step, open_book, repair_asked, book_lines, accept, enter, book_next}
use Rattle.beside_spec.specs.Acting.{act}
use Rattle.ledger_spec.proofs.Tested.{agrees, agree, fairly_event, fair-event}
use Rattle.text_spec.specs.Texts.{admitted, some_points, text_at, read_text}
use Rattle.text_spec.specs.Calls.{read_text_lines, read_text_call}
use Rattle.record_words.specs.Words.{is_record, record_from}
use Rattle.repair_words.specs.RepairWords.{is_repair}
use Rattle.archive_spec.specs.Lent.{zbk_set_up}
use Rattle.archive_spec.specs.Texts.{zbk_read_text}
use Rattle.archive_spec.specs.Demand3.{Held, held_next, GivenWords, AllowedLents, first_held}
use Rattle.archive_figures.specs.ArchiveFigures.{blank, four, points, any, beside, steps, ArchiveFigures}

-- ---- the premises of a list, tested

-- a record that words can tell
abbrev told : Running → Bool
told p =
    alls
    (eqb (length p.fresh) 32
    ∷ below 256 p.fresh
    ∷ eqb (length p.helpers) 256
    ∷ below 256 p.helpers
    ∷ eqb (length p.stand_ins) 256
    ∷ below 256 p.stand_ins
    ∷ [])

tells : (p : Running) → told p ≡ true → Arrays p
tells p e =
    let h = alls-hold
    (eqb (length p.fresh) 32
    ∷ below 256 p.fresh
    ∷ eqb (length p.helpers) 256
    ∷ below 256 p.helpers
    ∷ eqb (length p.stand_ins) 256
    ∷ below 256 p.stand_ins
    ∷ []) e in
    record {
      fresh-long = eqb-true _ _ h.0;
      fresh-bytes = below_all 256 p.fresh h.1.0;
      helpers-long = eqb-true _ _ h.1.1.0;
      helpers-bytes = below_all 256 p.helpers h.1.1.1.0;
      stand-ins-long = eqb-true _ _ h.1.1.1.1.0;
      stand-ins-bytes = below_all 256 p.stand_ins h.1.1.1.1.1.0;
    }

abbrev told_event : Event → Bool
told_event (call c) = true
told_event (power_fails p) = told p

worded : (e : Event) → told_event e ≡ true → GivenWords e
worded (call c) h = tt
worded (power_fails p) h = tells p h

abbrev tests : Held → Book → Step → List Bool
tests h b t = agrees b (record_from h.words) h.area t.area ∷ fairly_event b h.packets t.event ∷ told_event t.event ∷ []

abbrev allows : Held → Book → List Step → Bool
allows h b [] = true
allows h b (t ∷ ts) = pick (alls (tests h b t)) (allows (held_next h t.area t.event) (book_next b t.event) ts) false

allow : (h : Held) (b : Book) (ts : List Step) → allows h b ts ≡ true → AllowedLents h b ts
allow h b [] e = tt
allow h b (t ∷ ts) e =
    let k = both (alls (tests h b t)) (allows (held_next h t.area t.event) (book_next b t.event) ts) e in
    let g = alls-hold (tests h b t) k.0 in (
      agree b (record_from h.words) h.area t.area g.0,
      fair-event b h.packets t.event g.1.0,
      worded t.event g.1.1.0,
      allow (held_next h t.area t.event) (book_next b t.event) ts k.1,
    )

pub archive-figures : ArchiveFigures
unfolding piece put pointed seconds add product reduce mul squares inverse legal B stripes stripe grid F neighbours symbols kept share shares received
    exchanged own_f own_g helper_pair helper_packet stand_in_packet g_from exchange_packet f_from finished_stripe finished_share through b_column c_row a_column
    decoded_stripe decoded_file read_file sound helper_packets stand_in_packets exchange_packets partner_packets repair_packets fresh_share write_lines lose_lines list_lines repair_lines
    read_lines helpers_lying partners_lying exchanges_made share_lying packets_now sound_beside write_lines_both lose_lines_both repair_lines_both read_lines_both step_lines set_up_both
    careful_file careful_lines careful_lines_both careful_both kept_afresh share_afresh afresh afresh_area move_packets moved_share move_lines move_lines_both move_both write_both lose_both
    repair_both read_both start_call step_call is_record is_repair zbk_set_up act repair_asked book_lines accept enter admitted some_points text_at read_text read_text_lines read_text_call zbk_read_text
archive-figures = record {
  read-text = refl;
  read-text-refused = refl;
  set-up = refl;
  set-up-refused = refl;
  other-counts = refl;
  lost = refl;
  not-lost = refl;
  no-records = refl;
  lost-named = refl;
  no-repairs = refl;
  disagrees = refl;
  careful-reads = refl;
  moves = refl;
  moves-refused = refl;
  calls-say = refl;
  ledger-says = refl;
  allowed = allow (first_held any beside four points 1 blank steps) (open_book four points 1 12) steps refl;
  last-held = refl;
  last-book = refl;
  listed = refl;
}
