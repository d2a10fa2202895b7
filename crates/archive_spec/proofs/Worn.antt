-- A list of the archive's calls over worn boards is one of the definitions' calls, with both records in words.
-- Assumes nothing.
use mathlib.Core.Path.{◌≡◌, refl, sym, ap, subst, ◌∙◌}
use mathlib.Core.Bool.{true}
use mathlib.Core.List.{List, [], ◌∷◌}
use Prim.Native.Nat.{ℕ, ◌+◌, ◌*◌}
use native.Mathlib.Omega.{arith}
use lib.ListN.{length}
use Rattle.lists.specs.Lists.{All, over}
use Rattle.sizes.specs.declared.Sizes.{Sizes}
use Rattle.board_spec.specs.Calls.{file_of}
use Rattle.store_spec.specs.Record.{new_record}
use Rattle.beside_spec.specs.Running.{idle}
use Rattle.beside_spec.specs.Acting.{careful, State, act}
use Rattle.ledger_spec.specs.Ledger.{Event, call, power_fails, Book, Step, final, open_book, book_next, book_final}
use Rattle.ledger_spec.specs.Demand3.{begun, events}
use Rattle.list_spec.specs.WornLaws.{AnyBytes, Worn}
use Rattle.ledger_spec.proofs.LedgerLaws.{ledger-laws}
use Rattle.list_spec.proofs.Worn.{worn}
use Rattle.record_words.specs.Words.{is_record, record_from, words_of}
use Rattle.record_words.proofs.Laws.{word_laws}
use Rattle.repair_words.specs.RepairWords.{is_repair, repair_from, repair_words_of}
use Rattle.repair_words.proofs.RepairWords.{repair-words}
use Rattle.archive_spec.specs.Lent.{in_words, zbk_set_up}
use Rattle.archive_spec.specs.Demand3.{Held, GivenWords, held_state, first_held, end_held, end_book}
use Rattle.archive_spec.specs.Worn.{WornRun, ArchiveWorn}
use Rattle.archive_spec.proofs.Demand3.{Tells, Fit, ends, state-is, begun-so, tells-start}
use Rattle.archive_spec.proofs.InWords.{lent as lent-call, back-words}

worn-fit : (steps : List Step) (m : ℕ) → AnyBytes m steps → All GivenWords (events steps) → All Fit (events steps)
worn-fit [] m a g = tt
worn-fit (t ∷ ts) m a g = ((a.1, g.0), worn-fit ts m a.2 g.1)

-- sizes and the area's length are the set-up's, whatever happens
same-book : (es : List Event) (b : Book) → ((book_final b es).sizes ≡ b.sizes) × ((book_final b es).area_length ≡ b.area_length)
same-book [] b = (refl, refl)
same-book (call c ∷ es) b =
    let s = ledger-laws.stay b c in
    let r = same-book es (book_next b (call c)) in
    (r.0 ∙ s.0, r.1 ∙ s.2)
same-book (power_fails p ∷ es) b = same-book es (book_next b (power_fails p))

module _ (ws ps : List ℕ) (z : Sizes) (xs : List ℕ) (c : ℕ) (area : List ℕ) (steps : List Step) (e : (zbk_set_up ws ps z xs c).answer ≡ 0)
    (any : AnyBytes (length area) steps) (given : All GivenWords (events steps)) where
  abbrev held : Held
  held = end_held ws ps z xs c area steps

  abbrev book : Book
  book = end_book ws ps z xs c area steps

  abbrev last : State
  last = final (begun (new_record z xs c) idle z xs c area) steps

  tells-last : Tells held last
  tells-last =
      ends steps (first_held ws ps z xs c area steps) (begun (new_record z xs c) idle z xs c area) (tells-start ws ps z xs c area steps e) (worn-fit steps (length area) any given)

  are_words : is_record held.words ≡ true
  are_words = ap is_record tells-last.words_are ∙ word_laws.are_words last.kept tells-last.whole

  are-repair : is_repair held.repair ≡ true
  are-repair = ap is_repair tells-last.repair-are ∙ repair-words.are_words last.running tells-last.arrays

  after : Worn (held_state held) book
  after =
      subst (λ (w : State). Worn w book) (sym (state-is held last tells-last))
      (worn (new_record z xs c) idle z xs c area steps (begun-so ws ps z xs c area steps e).accepts any)

  same : (book.sizes ≡ z) × (book.area_length ≡ length area)
  same = same-book (events steps) (open_book z xs c (length area))

  runs : WornRun ws ps z xs c area steps
  unfolding act
  runs = record {
    are_words = are_words;
    are-repair = are-repair;
    after = after;
    gives = λ now long bytes boards output count once up room v told.
        let word : 0 + 256 * v ≡ 256 * v = omega arith in
        sym (lent-call (λ s p. act (record { kept = s; running = p; area = now; packets = [] }) (careful boards output)) held.words held.repair now output [] are_words are-repair)
        ∙ ap in_words (after.gives now (long ∙ sym same.1) bytes boards output (count ∙ ap (λ (y : Sizes). y.k + 2) (sym same.0)) once up room v told)
        ∙ ap (λ (w : ℕ). record {
          answer = w;
          words = words_of (record_from held.words);
          repair = repair_words_of (repair_from held.repair);
          area = now;
          output = over (file_of book.file) output;
          packets = [];
        }) word
        ∙ back-words held.words held.repair are_words are-repair (256 * v) now (over (file_of book.file) output) [];
  }

pub archive-worn : ArchiveWorn
archive-worn = runs
