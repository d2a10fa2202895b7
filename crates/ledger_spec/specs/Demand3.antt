-- Demand 3, whole: one claim over any list of writes, losses, repairs and reads, of edits (request A.6), of starts, steps and power failures (A.8),
-- of careful reads (A.11) and of moves (A.10).
-- proofs/Demand3.antt has `demand-3 : Demand3Claim`.
-- Assumes nothing.
use Rattle.std.specs.Prelude.{ℕ, ◌≤◌, ◌≡◌, true, List, [], map, length, Ok}
use Rattle.std.proofs.Math.Option.{some}
use Rattle.lists.specs.Tests.{every, among, different}
use Rattle.lists.specs.Lists.{over}
use Rattle.sizes.specs.declared.Sizes.{Sizes}
use Rattle.sizes.specs.Refusals.{said}
use Rattle.sizes.specs.Sizing.{max_stripes, legal}
use Rattle.mbcr.specs.Share.{standard, share}
use Rattle.mbcr.specs.PointLaws.{first_series}
use Rattle.board_spec.specs.Calls.{file_of}
use Rattle.store_spec.specs.Record.{Record, held}
use Rattle.store_spec.specs.Packets.{contents, repair_packets}
use Rattle.store_spec.specs.Calls.{accepted, repair_call}
use Rattle.beside_spec.specs.Running.{Running, idle, packets_len}
use Rattle.beside_spec.specs.Both.{beside, set_up_both, repair_both, read_both, step_call}
use Rattle.ledger_spec.specs.Ledger.{Event, Book, Repairing, Step, Altered, Unaltered, Allowed, open_book, book_length, book_record, Tells, replies, final, book_replies, book_final}
use Rattle.beside_spec.specs.Acting.{State}
use Rattle.store_spec.specs.RepairLaws.{Repaired}

-- A last step that leaves what the whole repair by these lists would leave over the same record and area: it is accepted, reports the packets that
-- were left, hands on no repair, and the packet area then has just the whole repair's packets.
pub record WholeStep (s : Record) (p : Running) (area packets : List ℕ) (allowance : ℕ) (fresh helpers stand_ins : List ℕ) (left : ℕ) : Type 0 where
  pub answers : (step_call s p area packets allowance).answer ≡ said (Ok left)
  pub would-be-taken : (repair_both s idle area fresh helpers stand_ins).answer.refusal ≡ 0
  pub same-record : (step_call s p area packets allowance).handed ≡ (repair_both s idle area fresh helpers stand_ins).handed
  pub same-running : (step_call s p area packets allowance).running ≡ (repair_both s idle area fresh helpers stand_ins).running
  pub same_area : (step_call s p area packets allowance).area ≡ (repair_both s idle area fresh helpers stand_ins).area
  pub same-packets : (step_call s p area packets allowance).packets ≡ contents (repair_packets s area fresh helpers stand_ins)

-- After the list, also where bytes of boards out of service were altered since the last call: `now` is the area.
pub record Intact (w : State) (b : Book) : Type 0 where
  -- the record is the one that the book tells
  pub same-record : w.kept ≡ book_record b
  -- and so is that of the repair beside it: idle where none runs
  pub same-running : Tells b.sizes b.repairing w.running
  -- "every board in service holds its share of that file": the first S stripes of its part of the area are its share
  pub holds : (now : List ℕ) → Altered b w.kept w.area now
      → (i : ℕ) → among b.service i ≡ true
      → held w.kept now i ≡ share b.sizes b.points (file_of b.file) i
  -- "a read of any k different boards in service, with output long enough, is accepted and gives exactly the last file accepted"
  pub gives : (now : List ℕ) → Altered b w.kept w.area now
      → (boards output : List ℕ)
      → length boards ≡ b.sizes.k
      → different boards ≡ true
      → every (among b.service) boards ≡ true
      → book_length b ≤ length output
      → read_both w.kept w.running now boards output
      ≡ beside w.running (accepted 0 w.kept now (over (file_of b.file) output))
  -- request A.8: "Stepped to its end with boards in service and the packet area unaltered, it leaves what the whole repair, with none running, would
  -- leave in place of the last step": a step that allows all packets left
  pub finishes : (r : Repairing) → b.repairing ≡ some r
      → (now : List ℕ) → Altered b w.kept w.area now
      → (packets : List ℕ) → length packets ≡ packets_len w.kept (length r.fresh) → Unaltered b w.packets packets
      → (allowance : ℕ) → r.left ≤ allowance
      → WholeStep w.kept w.running now packets allowance r.fresh r.helpers r.stand_ins r.left

-- the store newly set up, whatever records were handed to it and whatever the area holds
abbrev pub begun : Record → Running → Sizes → List ℕ → ℕ → List ℕ → State
begun old p z xs c area = record { kept = (set_up_both old p z xs c).handed; running = (set_up_both old p z xs c).running; area = area; packets = [] }

abbrev pub events : List Step → List Event
events steps = map (λ t. t.event) steps

-- What demand 3 says of one list of calls.
pub record Demand3 (old : Record) (p : Running) (z : Sizes) (xs : List ℕ) (c : ℕ) (area : List ℕ) (steps : List Step) : Type 0 where
  -- "every call answers as document 01's ledger does"
  pub alike : replies (begun old p z xs c area) steps ≡ book_replies (open_book z xs c (length area)) (events steps)
  -- "After the list"
  pub after : Intact (final (begun old p z xs c area) steps) (book_final (open_book z xs c (length area)) (events steps))
  -- "In each accepted repair", in this list or not
  pub repaired : (s : Record) (q : Running) (any fresh helpers stand_ins : List ℕ) → (repair_both s q any fresh helpers stand_ins).answer.refusal ≡ 0
      → (repair_both s q any fresh helpers stand_ins ≡ beside q (repair_call s any fresh helpers stand_ins)) × Repaired s any fresh helpers stand_ins

-- Demand 3: for every accepted set-up, with whatever points, any first area and any list of calls that is allowed.
abbrev pub Demand3Claim : Type 0
Demand3Claim =
    (old : Record) (p : Running) (z : Sizes) (xs : List ℕ) (c : ℕ) (area : List ℕ) (steps : List Step)
    → (set_up_both old p z xs c).answer.refusal ≡ 0
    → Allowed (begun old p z xs c area) (open_book z xs c (length area)) steps
    → Demand3 old p z xs c area steps

-- The same with points that depend on the sizes alone and are taken at all legal sizes: the set-up is accepted.
abbrev pub Demand3At : (Sizes → List ℕ) → Type 0
Demand3At points =
    (old : Record) (p : Running) (z : Sizes) (c : ℕ) (area : List ℕ) (steps : List Step)
    → legal z ≡ true
    → 1 ≤ c
    → c ≤ max_stripes
    → Allowed (begun old p z (points z) c area) (open_book z (points z) c (length area)) steps
    → Demand3 old p z (points z) c area steps

-- document 01's points, and those of the first series
abbrev pub Demand3Standard : Type 0
Demand3Standard = Demand3At standard

abbrev pub Demand3FirstSeries : Type 0
Demand3FirstSeries = Demand3At first_series
