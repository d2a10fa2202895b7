-- Demand 3 of the code: what holds of any list of events of the methods, by the crate store_spec's `Follows`. A run is what the calls gave back, each by its method's
-- contract on the records that the last one handed on, and after a power failure the records that the calls after it are given.
-- proofs/Demand3.antt has `code-demand-3 : CodeDemand3`, of request A.11 `code-worn : CodeWorn` and of A.10 `code-moved : CodeMoved`.
-- Assumes nothing.
use Rattle.std.specs.Prelude.{◌≡◌, false, List, [], ℕ, ◌<◌, length, set}
use Rattle.sizes.specs.declared.Sizes.{Sizes}
use Rattle.sizes.specs.Refusals.{said}
use Rattle.store_spec.specs.Record.{Record}
use Rattle.beside_spec.specs.Running as spec
use Rattle.beside_spec.specs.Both.{set_up_both}
use Rattle.beside_spec.specs.Acting.{Call, repair, move, State}
use Rattle.ledger_spec.specs.Ledger.{call, Step, Reply, Allowed, open_book, book_replies, book_final}
use Rattle.ledger_spec.specs.Demand3.{Intact, begun, events}
use Rattle.store_spec.specs.RepairLaws.{Repaired}
use Rattle.list_spec.specs.WornLaws.{AnyBytes, Worn}
use Rattle.store_spec.specs.Move.{move_call}
use Rattle.store_spec.specs.MoveLaws.{Moved}
use Rattle.list_spec.specs.Follows as follow
use Rattle.record.specs.declared.Running.{Running}
use Rattle.record.specs.Records.{running_in}
use Rattle.store.specs.declared.Store.{Store}
use Rattle.store.specs.declared.Handed.{Handed}
use Rattle.store.specs.Handing.{record_in, outcome_both}

-- both records, as a call takes them and hands them on
pub record Records : Type 0 where
  pub store : Store
  pub running : Running

abbrev pub kept_in : Records → Record
kept_in x = record_in x.store

abbrev pub beside_in : Records → spec.Running
beside_in x = running_in x.running

abbrev pub handed_on : Handed → Records
handed_on h = record { store = h.store; running = h.running }

-- what one call gave back: what it hands on, and the lent bytes as it left them
abbrev pub gave_back : Handed → List ℕ → List ℕ → List ℕ → follow.Given Records
gave_back h area output packets = record { handed = handed_on h; answer = said h.answer; area = area; output = output; packets = packets }

-- the contract of the call's method, for a call on these records with this area: it gave what the definition gives
abbrev pub Meets : Records → List ℕ → Call → follow.Given Records → Type 0
Meets x area c g = follow.Meets Records kept_in beside_in x area (call c) (follow.gave g)

-- each event is on the records that the one before it handed on
abbrev pub Run : Records → List Step → List (follow.Moment Records) → Type 0
Run x steps run = follow.Follows Records kept_in beside_in x steps run

abbrev pub replies_in : List (follow.Moment Records) → List Reply
replies_in run = follow.replies_in Records kept_in beside_in run

-- where it ends
abbrev pub ending : Records → List ℕ → List Step → List (follow.Moment Records) → State
ending x area steps run = follow.ending Records kept_in beside_in x area [] steps run

-- the answers of a run are the ledger's; where it ends, boards in service hold their shares; and in each accepted repair of the method, in the
-- run or not, fresh boards get the packets and hold the shares that demand 3 says
abbrev pub CodeDemand3 : Type 0
CodeDemand3 =
    (old : Store) (p : Running) (z : Sizes) (xs : List ℕ) (c : ℕ) (new : Handed)
    → outcome_both new [] [] [] ≡ set_up_both (record_in old) (running_in p) z xs c → (said new.answer).refusal ≡ 0
    → (area : List ℕ) (steps : List Step) (run : List (follow.Moment Records))
    → Allowed (begun (record_in old) (running_in p) z xs c area) (open_book z xs c (length area)) steps → Run (handed_on new) steps run
    → (replies_in run ≡ book_replies (open_book z xs c (length area)) (events steps))
    × Intact (ending (handed_on new) area steps run) (book_final (open_book z xs c (length area)) (events steps))
    × ((x : Records) (any fresh helpers stand_ins : List ℕ) (g : follow.Given Records) → Meets x any (repair fresh helpers stand_ins) g → g.answer.refusal ≡ 0
    → Repaired (kept_in x) any fresh helpers stand_ins)

-- request A.11: over any areas of bytes, of boards in service too, the records are the book's where a run ends, and a careful read of boards of which all but at most
-- one hold their share of the last file gives it
abbrev pub CodeWorn : Type 0
CodeWorn =
    (old : Store) (p : Running) (z : Sizes) (xs : List ℕ) (c : ℕ) (new : Handed)
    → outcome_both new [] [] [] ≡ set_up_both (record_in old) (running_in p) z xs c → (said new.answer).refusal ≡ 0
    → (area : List ℕ) (steps : List Step) (run : List (follow.Moment Records)) → AnyBytes (length area) steps → Run (handed_on new) steps run
    → Worn (ending (handed_on new) area steps run) (book_final (open_book z xs c (length area)) (events steps))

-- request A.10: in each accepted move of the method, in a run or not and over any bytes, the board gets the packets and every board holds what MoveLaws says, in the
-- area and the record that the method leaves; and no repair ran
abbrev pub CodeMoved : Type 0
CodeMoved =
    (x : Records) (any : List ℕ) (board point : ℕ) (helpers partners : List ℕ) (g : follow.Given Records)
    → Meets x any (move board point helpers partners) g → g.answer.refusal ≡ 0 → point < 256
    → Moved (kept_in x) any board point helpers partners (set (kept_in x).points board point)
    × (kept_in g.handed ≡ (move_call (kept_in x) any board point helpers partners).handed)
    × (g.area ≡ (move_call (kept_in x) any board point helpers partners).area)
    × (beside_in g.handed ≡ beside_in x) × ((beside_in x).running ≡ false)
