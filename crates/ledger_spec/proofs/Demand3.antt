-- Demand 3 holds.
-- Assumes nothing.
use Prim.Native.Nat.{ℕ, ◌≤◌}
use mathlib.Core.Path.{◌≡◌, refl, sym, ◌∙◌, ap, ap₂, subst}
use mathlib.Core.Bool.{true}
use mathlib.Core.List.{List, [], ◌∷◌, ◌++◌}
use mathlib.Core.Option.{Option, some, none}
use lib.ListN.{length}
use Rattle.lists.specs.Lists.{over}
use Rattle.lists.specs.Tests.{among, different, every}
use Rattle.lists.proofs.Tests.{true-false}
use Rattle.gf256.proofs.Laws.{laws}
use Rattle.sizes.specs.Sizing.{legal}
use Rattle.sizes.specs.declared.Sizes.{Sizes}
use Rattle.mbcr.specs.Share.{share, standard, pointed}
use Rattle.mbcr.specs.PointLaws.{first_series}
use Rattle.mbcr.proofs.PointLaws.{point-laws}
use Rattle.board_spec.specs.Calls.{file_of}
use Rattle.store_spec.specs.Calls.{accepted}
use Rattle.beside_spec.specs.Running.{Running, running_by, packets_len}
use Rattle.beside_spec.specs.Both.{Outcome, beside, read_both}
use Rattle.ledger_spec.specs.Demand3.{events, WholeStep, Intact, begun, Demand3Claim, Demand3At, Demand3Standard, Demand3FirstSeries}
use Rattle.beside_spec.specs.Acting.{State, Call, act, write, lose, repair, read, edit, start, step, careful, move}
use Rattle.ledger_spec.specs.Ledger.{Book, Repairing, Step, Event, call, power_fails, replies, book_replies, final, book_final, Fair, FairEvent, book_record, Tells, carried_by, Reply}
use Rattle.ledger_spec.specs.Ledger.{reply_of, packets_after, told, book_told, next, book_next, lent, enter, Altered, Unaltered, Allowed, book_length, open_book}
use Rattle.store_spec.specs.Record.{Record, held, sound, new_record}
use Rattle.store_spec.proofs.Real.{code_laws}
use Rattle.store_spec.proofs.Seam.{AllLaws}
use Rattle.beside_spec.proofs.Beside.{fresh-back, helpers-back, stand-ins-back, accepted-both, both-taken, set-up-both, set-up-done}
use Rattle.ledger_spec.proofs.Whole.{whole-step}
use Rattle.ledger_spec.proofs.Step.{Inv, Going, Runs, Good, at, write-good, lose-good, altered}
use Rattle.ledger_spec.proofs.StepRead.{read-good, read-gives}
use Rattle.ledger_spec.proofs.StepRepair.{repair-good}
use Rattle.ledger_spec.proofs.StepEdit.{edit-good}
use Rattle.ledger_spec.proofs.StepCareful.{careful-good}
use Rattle.ledger_spec.proofs.StepMove.{move-good}
use Rattle.ledger_spec.proofs.StepCarry.{inv-going, altered-runs, start-good, step-good, all-is, ls, lent-lies}

-- ---- a list of calls

record Run (w : State) (b : Book) (steps : List Step) : Type 0 where
  alike : replies w steps ≡ book_replies b (events steps)
  intact : Intact (final w steps) (book_final b (events steps))

-- what holds between a state and a book
pub record Between (w : State) (b : Book) : Type 0 where
  pub same-record : w.kept ≡ book_record b
  pub same-running : Tells b.sizes b.repairing w.running
  pub inv : Inv b w.area
  pub runs : Runs b b.repairing w.area w.packets

module _ (laws : AllLaws) where
  -- one call, of a book's own state
  one-call : (b : Book) (area packets : List ℕ) (v : Inv b area) (g : Runs b b.repairing area packets) (p : Running) (tells : Tells b.sizes b.repairing p) (c : Call)
      → Fair b packets c → Good (packets_after packets c) (act (at laws b area v packets g p tells) c) (enter b c)
  one-call b area packets v g p tells (write file) ok = write-good laws b area v packets g p tells file ok
  one-call b area packets v g p tells (lose board) ok = lose-good laws b area v packets g p tells board
  one-call b area packets v g p tells (repair fresh helpers stand_ins) ok = repair-good laws b area v packets g p tells fresh helpers stand_ins
  one-call b area packets v g p tells (read boards output) ok = read-good laws b area v packets g p tells boards output
  one-call b area packets v g p tells (edit offset bytes boards) ok = edit-good laws b area v packets g p tells offset bytes boards ok
  one-call b area packets v g p tells (start fresh helpers stand_ins) ok = start-good laws b area v packets g p tells fresh helpers stand_ins
  one-call b area packets v g p tells (step allowance lent) ok = step-good laws b area v packets g p tells allowance lent ok
  one-call b area packets v g p tells (careful boards output) ok = careful-good laws b area v packets g p tells boards output
  one-call b area packets v g p tells (move board point helpers partners) ok = move-good laws b area v packets g p tells board point helpers partners ok

  -- one event of a state that is the book's
  pub one : (w : State) (b : Book) (h : Between w b) (e : Event) → FairEvent b w.packets e → (told w e ≡ book_told b e) × Between (next w e) (book_next b e)
  one w b h (call c) ok =
      subst
      (λ (u : State). (reply_of (act u c) ∷ [] ≡ book_told b (call c)) × Between (next u (call c)) (book_next b (call c)))
      (ap (λ (s : Record). record { kept = s; running = w.running; area = w.area; packets = w.packets }) (sym h.same-record))
      (
      let k = one-call b w.area w.packets h.inv h.runs w.running h.same-running c ok in (
        ap (λ (r : Reply). r ∷ []) k.alike,
        record { same-record = k.same-record; same-running = k.same-running; inv = k.inv; runs = k.runs },
      )
      )
  one w b h (power_fails p) ok = (
    refl,
    record { same-record = h.same-record; same-running = ok; inv = inv-going b none b.service w.area h.inv; runs = tt },
  )

  altered-at : (w : State) (b : Book) (now : List ℕ) → Between w b → Altered b w.kept w.area now
      → Between (record { kept = w.kept; running = w.running; area = now; packets = w.packets }) b
  altered-at w b now h k =
      let a = subst (λ (s : Record). Altered b s w.area now) h.same-record k in
      record {
        same-record = h.same-record;
        same-running = h.same-running;
        inv = altered b w.area now h.inv a;
        runs = altered-runs laws b w.area now h.inv a b.repairing w.packets h.runs;
      }

  -- where a repair runs, a step that allows all that is left
  finishes : (w : State) (b : Book) → Between w b → (r : Repairing) → b.repairing ≡ some r
      → (packets : List ℕ) → length packets ≡ packets_len w.kept (length r.fresh) → Unaltered b w.packets packets
      → (allowance : ℕ) → r.left ≤ allowance
      → WholeStep w.kept w.running w.area packets allowance r.fresh r.helpers r.stand_ins r.left
  finishes w b h r e packets long same allowance enough =
      let k : Going b r w.area w.packets = subst (λ (o : Option Repairing). Runs b o w.area w.packets) e h.runs in
      let p : Running = running_by r.fresh r.helpers r.stand_ins (carried_by b r) in
      let q : w.running ≡ p = subst (λ (o : Option Repairing). Tells b.sizes o w.running) e h.same-running in
      let long2 : length packets ≡ packets_len (book_record b) (length r.fresh) = long ∙ ap (λ (s : Record). packets_len s (length r.fresh)) h.same-record in
      let alike = same r e long2 in
      subst
      (λ (s : Record). WholeStep s w.running w.area packets allowance r.fresh r.helpers r.stand_ins r.left)
      (sym h.same-record)
      (subst
      (λ (x : Running). WholeStep (book_record b) x w.area packets allowance r.fresh r.helpers r.stand_ins r.left)
      (sym q)
      (whole-step (book_record b) p w.area packets allowance r.fresh r.helpers r.stand_ins r.left k.pass refl
      (fresh-back (book_record b) (length w.area) r.fresh r.helpers r.stand_ins k.pass (carried_by b r))
      (helpers-back (book_record b) (length w.area) r.fresh r.helpers r.stand_ins k.pass (carried_by b r))
      (stand-ins-back (book_record b) (length w.area) r.fresh r.helpers r.stand_ins k.pass (carried_by b r))
      k.some_left (all-is laws b w.area h.inv w.packets r k packets long2 alike) enough (ls laws b w.area h.inv w.packets r k packets long2 alike)
      (lent-lies laws b w.area h.inv w.packets r k packets long2 alike)))

  intact-at : (w : State) (b : Book) → Between w b → Intact w b
  intact-at w b h =
      record {
        same-record = h.same-record;
        same-running = h.same-running;
        holds = λ now k. subst
            (λ (s : Record). (i : ℕ) → among b.service i ≡ true → held s now i ≡ share b.sizes b.points (file_of b.file) i)
            (sym h.same-record)
            (altered-at w b now h k).inv.holds;
        gives = λ now k. subst
            (λ (s : Record). (boards output : List ℕ) → length boards ≡ b.sizes.k → different boards ≡ true → every (among b.service) boards ≡ true
            → book_length b ≤ length output
            → read_both s w.running now boards output ≡ beside w.running (accepted 0 s now (over (file_of b.file) output)))
            (sym h.same-record)
            (read-gives laws b now (altered-at w b now h k).inv w.packets (altered-at w b now h k).runs w.running h.same-running);
        finishes = λ r e now k packets long same allowance enough.
            finishes (record { kept = w.kept; running = w.running; area = now; packets = w.packets }) b (altered-at w b now h k) r e packets long same allowance enough;
      }

  run : (steps : List Step) (w : State) (b : Book) → Between w b → Allowed w b steps → Run w b steps
  run [] w b h a = record { alike = refl; intact = intact-at w b h }
  run (t ∷ ts) w b h a =
      let k = one (lent w t) b (altered-at w b t.area h a.0) t.event a.1 in
      let r = run ts (next (lent w t) t.event) (book_next b t.event) k.1 a.2 in
      record { alike = ap₂ {C = List Reply} (λ (x y : List Reply). x ++ y) k.0 r.alike; intact = r.intact }

-- ---- the start

pub open-inv : (z : Sizes) (xs : List ℕ) (c : ℕ) (area : List ℕ) → sound (new_record z xs c) ≡ true → Inv (open_book z xs c (length area)) area
open-inv z xs c area s =
    record {
      as_long = refl;
      is-sound = s;
      bytes = tt;
      serving = tt;
      room = λ e. absurd (true-false e refl);
      holds = λ i e. absurd (true-false e refl);
    }

pub demand-3 : Demand3Claim
demand-3 old p z xs c area steps accepted ok =
    let d = set-up-done old p z xs c accepted in
    let r = run code_laws steps (begun old p z xs c area) (open_book z xs c (length area)) (record {
      same-record = ap (λ (o : Outcome). o.handed) d;
      same-running = ap (λ (o : Outcome). o.running.running) d;
      inv = open-inv z xs c area (set-up-both old p z xs c accepted);
      runs = tt;
    }) ok in
    record {
      alike = r.alike;
      after = r.intact;
      repaired = λ s q any fresh helpers stand_ins h. accepted-both s q any fresh helpers stand_ins h;
    }

-- ---- points that are taken

taken : (points : Sizes → List ℕ) → ((z : Sizes) → legal z ≡ true → pointed z (points z) ≡ true) → Demand3At points
taken points q old p z c area steps l a b ok = demand-3 old p z (points z) c area steps (both-taken old p z (points z) c l (q z l) a b) ok

pub demand-3-standard : Demand3Standard
demand-3-standard = taken standard point-laws.standard-pointed

pub demand-3-first-series : Demand3FirstSeries
demand-3-first-series = taken first_series point-laws.first-series-pointed
