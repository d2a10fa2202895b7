-- Request A.11, 'A board that answers wrongly', of the archive: what holds of any list of its store calls and of power failures between which anyone may alter any
-- bytes, of boards in service and of packets carried too. proofs/Worn.antt has `archive-worn : ArchiveWorn`.
-- Assumes nothing.
use Rattle.std.specs.Prelude.{◌≡◌, true, List, [], ℕ, ◌+◌, ◌*◌, ◌≤◌, length}
use Rattle.lists.specs.Tests.{every, among, different}
use Rattle.lists.specs.Lists.{All, Bytes, over}
use Rattle.sizes.specs.declared.Sizes.{Sizes}
use Rattle.board_spec.specs.Calls.{file_of}
use Rattle.beside_spec.specs.Acting.{careful}
use Rattle.ledger_spec.specs.Ledger.{Step, book_length}
use Rattle.ledger_spec.specs.Demand3.{events}
use Rattle.store_spec.specs.CarefulLaws.{OddTold}
use Rattle.list_spec.specs.WornLaws.{AnyBytes, Worn}
use Rattle.record_words.specs.Words.{is_record, record_from}
use Rattle.repair_words.specs.RepairWords.{is_repair}
use Rattle.archive_spec.specs.Lent.{zbk_set_up, zbk}
use Rattle.archive_spec.specs.Demand3.{GivenWords, held_state, end_held, end_book}

module _ (ws ps : List ℕ) (z : Sizes) (xs : List ℕ) (c : ℕ) (area : List ℕ) (steps : List Step) where
  -- The last words are still those that the book tells, and over any area of bytes of the same length, whatever happened to it: "If all the named boards but at most
  -- one hold their share of the last file, that file is the answer", with the odd board's number plus 1, or 0 for none, above eight bits 0; words and bytes stay.
  pub record WornRun : Type 0 where
    pub are_words : is_record (end_held ws ps z xs c area steps).words ≡ true
    pub are-repair : is_repair (end_held ws ps z xs c area steps).repair ≡ true
    pub after : Worn (held_state (end_held ws ps z xs c area steps)) (end_book ws ps z xs c area steps)
    pub gives : let h = end_held ws ps z xs c area steps in let b = end_book ws ps z xs c area steps in
        (now : List ℕ) → length now ≡ length area → Bytes now
        → (boards output : List ℕ)
        → length boards ≡ z.k + 2
        → different boards ≡ true
        → every (among b.service) boards ≡ true
        → book_length b ≤ length output
        → (v : ℕ) → OddTold (record_from h.words) now (file_of b.file) boards v
        → zbk h.words h.repair now (careful boards output)
        ≡ record { answer = 256 * v; words = h.words; repair = h.repair; area = now; output = over (file_of b.file) output; packets = [] }

-- each call is lent as many bytes as the set-up's area has, files, bytes of an edit and new points are of bytes, and after a power failure the words of an idle record
-- are given
abbrev pub ArchiveWorn : Type 0
ArchiveWorn =
    (ws ps : List ℕ) (z : Sizes) (xs : List ℕ) (c : ℕ) (area : List ℕ) (steps : List Step)
    → (zbk_set_up ws ps z xs c).answer ≡ 0
    → AnyBytes (length area) steps
    → All GivenWords (events steps)
    → WornRun ws ps z xs c area steps
