-- What a call changes in the ledger's book: nothing where it is refused; else the file and the boards in service that document 01 says, and no
-- others. proofs/LedgerLaws.antt has `ledger-laws : LedgerLaws`.
-- Assumes nothing.
use Rattle.std.specs.Prelude.{◌≡◌, true, false, List, ◌↔◌, ◌≢◌, ℕ, ◌+◌, ◌-◌, ◌*◌, ◌≤◌, ◌<◌, ltb, eqb, length, set}
use Rattle.std.proofs.Math.Option.{some, none}
use Rattle.lists.specs.Tests.{pick, among, given}
use Rattle.lists.specs.Lists.{tabulate, put, fit, All}
use Rattle.sizes.specs.declared.Sizes.{Sizes}
use Rattle.sizes.specs.Sizing.{stripes, legal}
use Rattle.board_spec.specs.Calls.{file_of}
use Rattle.beside_spec.specs.Running.{Running}
use Rattle.beside_spec.specs.Acting.{Call, write, lose, repair, read, edit, start, step, careful, move, output_of}
use Rattle.ledger_spec.specs.Ledger.{Book, Repairing, during, kept_on, book_length, enter, book_record, Tells, book_running, book_lines}
use Rattle.sizes.specs.declared.Refusal.{Refusal}
use Rattle.sizes.specs.declared.Refusal.TheVariants.{Size, Disagree}
use Rattle.sizes.specs.Refusals.{applies_in}
use Rattle.beside_spec.specs.BothCalls.{store_lines}
use Rattle.beside_spec.specs.HandedLaws.{new_point, set_points}

abbrev pub Accepted : Book → Call → Type 0
Accepted b call = (enter b call).reply.answer.refusal ≡ 0

pub record LedgerLaws : Type 0 where
  -- "and then changes nothing"
  pub refused : (b : Book) (call : Call) → (Accepted b call → ⊥) → ((enter b call).book ≡ b) × ((enter b call).reply.output ≡ output_of call)
  -- sizes, capacity and the area's length stay; the points but for an accepted move
  pub stay : (b : Book) (call : Call)
      → ((enter b call).book.sizes ≡ b.sizes) × ((enter b call).book.capacity ≡ b.capacity) × ((enter b call).book.area_length ≡ b.area_length)
  pub points-are : (b : Book) (call : Call) → (enter b call).book.points ≡ set_points b.points (new_point call (enter b call).reply.answer)
  -- "moves one board to a new byte", where no repair runs: its point and nothing else; "the bytes reported are those of a repair of one board"
  pub moves : (b : Book) (board point : ℕ) (helpers partners : List ℕ) → Accepted b (move board point helpers partners)
      → (b.repairing ≡ none)
      × ((enter b (move board point helpers partners)).reply.answer.reported ≡ stripes b.sizes (book_length b) * (2 * b.sizes.d + b.sizes.r - 1))
      × ((enter b (move board point helpers partners)).book
      ≡ record {
        sizes = b.sizes;
        points = set b.points board point;
        capacity = b.capacity;
        area_length = b.area_length;
        file = b.file;
        service = b.service;
        repairing = b.repairing;
      })
  -- "all n come into service"
  pub writes : (b : Book) (file : List ℕ) → Accepted b (write file)
      → ((enter b (write file)).book.file ≡ some file) × ((i : ℕ) → among (enter b (write file)).book.service i ≡ ltb i b.sizes.n)
  -- "its mark goes off"
  pub loses : (b : Book) (board : ℕ) → Accepted b (lose board)
      → ((enter b (lose board)).book.file ≡ b.file)
      × ((i : ℕ) → among (enter b (lose board)).book.service i ≡ pick (eqb board i) false (among b.service i))
  -- "Fresh boards .. come into service together"
  pub repairs : (b : Book) (fresh helpers stand_ins : List ℕ) → Accepted b (repair fresh helpers stand_ins)
      → ((enter b (repair fresh helpers stand_ins)).book.file ≡ b.file)
      × ((i : ℕ) → among (enter b (repair fresh helpers stand_ins)).book.service i ≡ pick (among fresh i) true (among b.service i))
  -- "The file that reads must return is from then on the edited one", and no board comes or goes
  pub edits : (b : Book) (offset : ℕ) (bytes boards : List ℕ) → Accepted b (edit offset bytes boards)
      → ((enter b (edit offset bytes boards)).book.file ≡ some (put (file_of b.file) offset bytes))
      × ((enter b (edit offset bytes boards)).book.service ≡ b.service)
  -- request A.8: a start notes its lists and "exactly t(d + r − 1) packets" to carry, where none ran; file and boards in service stay
  pub starts : (b : Book) (fresh helpers stand_ins : List ℕ) → Accepted b (start fresh helpers stand_ins)
      → (b.repairing ≡ none)
      × ((enter b (start fresh helpers stand_ins)).book.repairing
      ≡ some (record { fresh = fresh; helpers = helpers; stand_ins = stand_ins; left = length fresh * (b.sizes.d + b.sizes.r - 1) }))
      × ((enter b (start fresh helpers stand_ins)).book.file ≡ b.file) × ((enter b (start fresh helpers stand_ins)).book.service ≡ b.service)
  -- a step is accepted only where a repair runs; one that leaves packets to carry reports its allowance and changes nothing but what is left
  pub steps_on : (b : Book) (r : Repairing) (allowance : ℕ) (packets : List ℕ) → b.repairing ≡ some r → Accepted b (step allowance packets) → allowance < r.left
      → ((enter b (step allowance packets)).reply.answer.reported ≡ allowance)
      × ((enter b (step allowance packets)).book.repairing ≡ some (record { fresh = r.fresh; helpers = r.helpers; stand_ins = r.stand_ins; left = r.left - allowance }))
      × ((enter b (step allowance packets)).book.file ≡ b.file) × ((enter b (step allowance packets)).book.service ≡ b.service)
  -- one that allows all that is left reports these, and "the fresh boards .. enter service only with the last"
  pub steps-last : (b : Book) (r : Repairing) (allowance : ℕ) (packets : List ℕ) → b.repairing ≡ some r → Accepted b (step allowance packets) → r.left ≤ allowance
      → ((enter b (step allowance packets)).reply.answer.reported ≡ r.left)
      × ((enter b (step allowance packets)).book.repairing ≡ none)
      × ((enter b (step allowance packets)).book.file ≡ b.file)
      × ((i : ℕ) → among (enter b (step allowance packets)).book.service i ≡ pick (among r.fresh i) true (among b.service i))
  pub steps-none : (b : Book) (allowance : ℕ) (packets : List ℕ) → b.repairing ≡ none → Accepted b (step allowance packets) → ⊥
  -- the book is fed the length of a packet area, and none of its bytes
  pub by_length : (b : Book) (allowance : ℕ) (packets packets' : List ℕ) → length packets ≡ length packets' → enter b (step allowance packets) ≡ enter b (step allowance packets')
  -- "Losing a board named in the repair ends it", and no other loss does
  pub loses-repair : (b : Book) (board : ℕ) → Accepted b (lose board) → (enter b (lose board)).book.repairing ≡ during b.repairing none (λ r. kept_on r board)
  -- a read changes no book, a careful one neither
  pub reads : (b : Book) (boards output : List ℕ) → (enter b (read boards output)).book ≡ b
  pub careful-reads : (b : Book) (boards output : List ℕ) → (enter b (careful boards output)).book ≡ b
  -- the record that the book tells
  pub record_is : (b : Book)
      → book_record b
      ≡ record { sizes = b.sizes; points = b.points; capacity = b.capacity; written = given b.file; length = length (file_of b.file); marks = tabulate 32 (among b.service) }
  -- request A.8: that of a repair beside it. Where none runs it is any that is idle; else it has just the repair's lists, with 0 behind them, and has carried all of
  -- t(d + r − 1) packets but those left
  pub tells_none : (z : Sizes) (p : Running) → Tells z none p ↔ (p.running ≡ false)
  pub tells-some : (z : Sizes) (r : Repairing) (p : Running)
      → Tells z (some r) p
      ↔ (p
      ≡ record {
        running = true;
        count = length r.fresh;
        carried = length r.fresh * (z.d + z.r - 1) - r.left;
        fresh = fit 32 r.fresh;
        helpers = fit 256 r.helpers;
        stand_ins = fit 256 r.stand_ins;
      })

-- demand 1's lines by the book: proofs/Agree.antt has `lines-agree : LinesAgree`
pub record LinesAgree : Type 0 where
  -- the ledger's lines are the store's: for each refusal but 1 and 10, by any book that tells legal sizes and names boards below n, and no more fresh
  -- boards than a record has room for
  pub lines-agree : (b : Book) (area : List ℕ) (c : Call) → legal b.sizes ≡ true → All (λ i. i < b.sizes.n) b.service → length area ≡ b.area_length
      → ((r : Repairing) → b.repairing ≡ some r → length r.fresh ≤ 32)
      → (x : Refusal) → x ≢ Size → x ≢ Disagree → applies_in (store_lines (book_record b) (book_running b) area c) x ≡ applies_in (book_lines b c) x
