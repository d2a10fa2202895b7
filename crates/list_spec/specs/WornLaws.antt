-- Request A.11, 'A board that answers wrongly': a worn board costs no file. Demand 3's own claim "keeps its premise that boards in service are unaltered"; the one
-- here has none of them unaltered. proofs/Worn.antt has `worn : WornClaim` and `worn-premises : WornPremises`.
-- Assumes nothing.
use Rattle.std.specs.Prelude.{◌≡◌, true, false, ◌↔◌, List, [], ◌∷◌, ℕ, ◌+◌, ◌≤◌, ◌<◌, length}
use Rattle.lists.specs.Tests.{among, different, every}
use Rattle.lists.specs.Lists.{All, Bytes, over}
use Rattle.sizes.specs.declared.Sizes.{Sizes}
use Rattle.board_spec.specs.Calls.{file_of}
use Rattle.store_spec.specs.Record.{Record}
use Rattle.store_spec.specs.Calls.{accepted}
use Rattle.beside_spec.specs.Running.{Running}
use Rattle.beside_spec.specs.Both.{beside, set_up_both, careful_both}
use Rattle.beside_spec.specs.Acting.{write, edit, move, State}
use Rattle.ledger_spec.specs.Ledger.{Book, Step, Event, call, power_fails, Tells, open_book, book_length, book_record, final, book_final}
use Rattle.ledger_spec.specs.Demand3.{begun, events}
use Rattle.ledger_spec.specs.Premises.{files_of, files, IdleGiven}
use Rattle.store_spec.specs.CarefulLaws.{OddTold}

-- what a list has is of bytes, and after a power failure the record given is an idle one; a step's packet area may be any
abbrev pub OfBytes : Event → Type 0
OfBytes (call c) = All Bytes (files_of c)
OfBytes (power_fails p) = p.running ≡ false

-- a list of calls and power failures over any areas of m bytes: between calls anyone may alter any bytes, of boards in service and of packets carried too
abbrev pub AnyBytes : ℕ → List Step → Type 0
AnyBytes m [] = Unit
AnyBytes m (t ∷ ts) = (length t.area ≡ m) × OfBytes t.event × AnyBytes m ts

-- of an entry of such a list nothing but this is asked
pub record AskedWorn (m : ℕ) (t : Step) : Type 0 where
  pub as_long : length t.area ≡ m
  pub writes_bytes : (file : List ℕ) → t.event ≡ call (write file) → Bytes file
  pub edits-bytes : (offset : ℕ) (bytes boards : List ℕ) → t.event ≡ call (edit offset bytes boards) → Bytes bytes
  pub moves-byte : (board point : ℕ) (helpers partners : List ℕ) → t.event ≡ call (move board point helpers partners) → point < 256
  pub idle-given : (given : Running) → t.event ≡ power_fails given → given.running ≡ false

pub record WornPremises : Type 0 where
  pub none-asked : (m : ℕ) → AnyBytes m []
  pub more-asked : (m : ℕ) (t : Step) (ts : List Step) → AnyBytes m (t ∷ ts) ↔ (AskedWorn m t × AnyBytes m ts)
  -- so every list is such a one whose areas have m bytes, whose files and bytes of edits are of bytes, and that gives an idle record after each power failure
  pub all_asked : (m : ℕ) (ts : List Step) → All (λ t. length t.area ≡ m) ts → All Bytes (files (events ts)) → IdleGiven (events ts) → AnyBytes m ts

-- After such a list, over any area of bytes.
pub record Worn (w : State) (b : Book) : Type 0 where
  -- the records are still those that the book tells
  pub same-record : w.kept ≡ book_record b
  pub same-running : Tells b.sizes b.repairing w.running
  -- "If all the named boards but at most one hold their share of the last file, that file is the answer", with the odd board's number or none
  pub gives : (now : List ℕ) → length now ≡ b.area_length → Bytes now
      → (boards output : List ℕ)
      → length boards ≡ b.sizes.k + 2
      → different boards ≡ true
      → every (among b.service) boards ≡ true
      → book_length b ≤ length output
      → (v : ℕ) → OddTold w.kept now (file_of b.file) boards v
      → careful_both w.kept w.running now boards output
      ≡ beside w.running (accepted v w.kept now (over (file_of b.file) output))

abbrev pub WornClaim : Type 0
WornClaim =
    (old : Record) (p : Running) (z : Sizes) (xs : List ℕ) (c : ℕ) (area : List ℕ) (steps : List Step)
    → (set_up_both old p z xs c).answer.refusal ≡ 0
    → AnyBytes (length area) steps
    → Worn (final (begun old p z xs c area) steps) (book_final (open_book z xs c (length area)) (events steps))
