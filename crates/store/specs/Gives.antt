-- What demand 3 says after a list of calls, of an accepted repair and of the end of a started one, said of what the methods gave. proofs/Gives.antt has `code_gives`.
-- Assumes nothing.
use Rattle.std.specs.Prelude.{◌≡◌, true, List, [], ◌∷◌, ◌++◌, ℕ, ◌+◌, ◌-◌, ◌*◌, ◌≤◌, length, Ok}
use Rattle.std.proofs.Math.Option.{some}
use Rattle.lists.specs.Tests.{every, among, different}
use Rattle.lists.specs.Lists.{over}
use Rattle.sizes.specs.Refusals.{said}
use Rattle.board_spec.specs.Calls.{file_of}
use Rattle.store_spec.specs.Record.{stripe_count, held}
use Rattle.store_spec.specs.Packets.{repair_packets, fresh_share, contents}
use Rattle.store_spec.specs.Calls.{accepted}
use Rattle.beside_spec.specs.Running as spec
use Rattle.beside_spec.specs.Running.{idle, packets_len}
use Rattle.beside_spec.specs.Both.{beside, repair_both}
use Rattle.beside_spec.specs.Acting.{Call, repair, read, step}
use Rattle.ledger_spec.specs.Ledger.{call, power_fails, Step, Book, Repairing, Altered, Unaltered, book_length, packets_after}
use Rattle.ledger_spec.specs.Demand3.{Intact}
use Rattle.list_spec.specs.Follows.{Given, Moment, gave, anew, FollowsLaws, outcome_of}
use Rattle.record.specs.declared.Running.{Running}
use Rattle.record.specs.Records.{running_in}
use Rattle.store.specs.declared.Store.{Store}
use Rattle.store.specs.declared.Handed.{Handed}
use Rattle.store.specs.Handing.{record_in, outcome_both}
use Rattle.store.specs.Demand3.{Records, kept_in, beside_in, gave_back, Meets, Run, ending}

pub record CodeGives : Type 0 where
  -- the store's record and that of a repair by their fields, and what a call gave by its parts
  pub record_is : (s : Store)
      → let k = s.record in record_in s ≡ record { sizes = k.sizes; points = k.points; capacity = k.capacity; written = k.written; length = k.length; marks = k.marks }
  pub running-is : (p : Running)
      → running_in p ≡ record { running = p.running; count = p.count; carried = p.carried; fresh = p.fresh; helpers = p.helpers; stand_ins = p.stand_ins }
  pub handed-is : (h : Handed) (area output packets : List ℕ)
      → outcome_both h area output packets
      ≡ record { answer = said h.answer; handed = record_in h.store; running = running_in h.running; area = area; output = output; packets = packets }
  pub gave-is : (h : Handed) (area output packets : List ℕ)
      → outcome_of Records kept_in beside_in (gave_back h area output packets) ≡ outcome_both h area output packets
  -- what calls gave, each by its contract on the records that the last one handed on, is a run: nothing else is asked; and where it ends
  pub runs : FollowsLaws Records kept_in beside_in
  -- a run ends where the last of its events ended, however many there are before it
  pub ending-none : (x : Records) (area : List ℕ) → ending x area [] [] ≡ record { kept = kept_in x; running = beside_in x; area = area; packets = [] }
  pub ending-last : (x : Records) (area : List ℕ) (ts : List Step) (run : List (Moment Records)) → Run x ts run
      → (now : List ℕ) (c : Call) (g : Given Records)
      → ending x area (ts ++ (record { area = now; event = call c } ∷ [])) (run ++ (gave g ∷ []))
      ≡ record {
        kept = kept_in g.handed;
        running = beside_in g.handed;
        area = g.area;
        packets = packets_after (ending x area ts run).packets c (outcome_of Records kept_in beside_in g);
      }
  pub ending-fails : (x : Records) (area : List ℕ) (ts : List Step) (run : List (Moment Records)) → Run x ts run
      → (now : List ℕ) (p : spec.Running) (y : Records)
      → ending x area (ts ++ (record { area = now; event = power_fails p } ∷ [])) (run ++ (anew y ∷ []))
      ≡ record { kept = kept_in y; running = beside_in y; area = now; packets = [] }
  -- where demand 3's ending holds: a read of any k different boards in service, with output long enough, gave exactly the last file accepted
  pub reads : (x : Records) (area packets : List ℕ) (b : Book) → Intact (record { kept = kept_in x; running = beside_in x; area = area; packets = packets }) b
      → (lent : List ℕ) → Altered b (kept_in x) area lent
      → (boards output : List ℕ) → length boards ≡ b.sizes.k → different boards ≡ true → every (among b.service) boards ≡ true
      → book_length b ≤ length output
      → (g : Given Records) → Meets x lent (read boards output) g
      → outcome_of Records kept_in beside_in g ≡ beside (beside_in x) (accepted 0 (kept_in x) lent (over (file_of b.file) output))
  -- and a step that allows all packets left of a repair that runs gave what the whole repair, with none running, would leave in its place
  pub finishes : (x : Records) (area packets : List ℕ) (b : Book) → Intact (record { kept = kept_in x; running = beside_in x; area = area; packets = packets }) b
      → (r : Repairing) → b.repairing ≡ some r
      → (lent : List ℕ) → Altered b (kept_in x) area lent
      → (lying : List ℕ) → length lying ≡ packets_len (kept_in x) (length r.fresh) → Unaltered b packets lying
      → (allowance : ℕ) → r.left ≤ allowance
      → (g : Given Records) → Meets x lent (step allowance lying) g
      → let o = repair_both (kept_in x) idle lent r.fresh r.helpers r.stand_ins in
      (o.answer.refusal ≡ 0) × (g.answer ≡ said (Ok r.left)) × (kept_in g.handed ≡ o.handed) × (beside_in g.handed ≡ o.running) × (g.area ≡ o.area)
      × (g.packets ≡ contents (repair_packets (kept_in x) lent r.fresh r.helpers r.stand_ins))
  -- an accepted repair, over any records and any area: the bytes moved, and what each fresh board holds in the area that it left
  pub moved : (x : Records) (area fresh helpers stand_ins : List ℕ) (g : Given Records) → Meets x area (repair fresh helpers stand_ins) g → g.answer.refusal ≡ 0
      → g.answer.reported ≡ stripe_count (kept_in x) * length fresh * (2 * x.store.record.sizes.d + x.store.record.sizes.r - 1)
  pub has : (x : Records) (area fresh helpers stand_ins : List ℕ) (g : Given Records) → Meets x area (repair fresh helpers stand_ins) g → g.answer.refusal ≡ 0
      → (i : ℕ) → among fresh i ≡ true → held (kept_in x) g.area i ≡ fresh_share (kept_in x) area fresh helpers stand_ins i
