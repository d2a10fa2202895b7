-- The methods' contracts are what `Meets` says. A contract is taken as the checker hands it to a caller: `Asked` is its `requires`, `Learnt` its
-- `ensures`. So a method that ensures less, or requires something, is refused here.
-- Assumes nothing.
use mathlib.Core.Path.{◌≡◌}
use mathlib.Core.List.{List, []}
use Prim.Native.Nat.{ℕ}
use contract.Lifetimes.{Lfts}
use denote.Triple.Clauses.{AtExit}
use borrow.Fn.Kinds.{Dens, ended_of}
use Rattle.beside_spec.specs.Both.{set_up_both}
use Rattle.beside_spec.specs.Acting.{write, lose, repair, read, careful, edit, move, start, step, act}
use Rattle.record.specs.declared.Running.{Running}
use Rattle.record.specs.Records.{running_in}
use Rattle.store.specs.declared.Store.{Store}
use Rattle.store.specs.declared.Handed.{Handed}
use Rattle.store.specs.Handing.{record_in, outcome_both}
use Rattle.store.specs.Demand3.{Records, gave_back, Meets}
use Rattle.store.proofs.Store.set_up.Reads as set-ups
use Rattle.store.proofs.Store.set_up.Kinds as set-up-kinds
use Rattle.store.proofs.Store.write.Reads as writes
use Rattle.store.proofs.Store.write.Kinds as write-kinds
use Rattle.store.proofs.Store.lose.Reads as loses
use Rattle.store.proofs.Store.lose.Kinds as lose-kinds
use Rattle.store.proofs.Store.repair.Reads as repairs
use Rattle.store.proofs.Store.repair.Kinds as repair-kinds
use Rattle.store.proofs.Store.read.Reads as reads
use Rattle.store.proofs.Store.read.Kinds as read-kinds
use Rattle.store.proofs.Store.read_careful.Reads as carefuls
use Rattle.store.proofs.Store.read_careful.Kinds as careful-kinds
use Rattle.store.proofs.Store.edit.Reads as edits
use Rattle.store.proofs.Store.edit.Kinds as edit-kinds
use Rattle.store.proofs.Store.move_board.Reads as moves
use Rattle.store.proofs.Store.move_board.Kinds as move-kinds
use Rattle.store.proofs.Store.start.Reads as starts
use Rattle.store.proofs.Store.start.Kinds as start-kinds
use Rattle.store.proofs.Store.step.Reads as steps
use Rattle.store.proofs.Store.step.Kinds as step-kinds

-- the records that a call takes
abbrev on : Store → Running → Records
on s p = record { store = s; running = p }

pub set-up-meets : (κs : Lfts 0) (a : Dens κs set-up-kinds.ps) (r : Handed) (e : AtExit (ended_of 0 set-up-kinds.ps set-up-kinds.r) κs)
    → set-ups.Asked κs a
    × (set-ups.Learnt κs a r e → outcome_both r [] [] [] ≡ set_up_both (record_in a.0) (running_in a.1.0) a.1.1.0 a.1.1.1.0 a.1.1.1.1.0)
set-up-meets κs a r e = (tt, λ h. h)

pub write_meets : (κs : Lfts 2) (a : Dens κs write-kinds.ps) (r : Handed) (e : AtExit (ended_of 2 write-kinds.ps write-kinds.r) κs)
    → writes.Asked κs a
    × (writes.Learnt κs a r e
    → Meets (on a.0 a.1.0) a.1.1.0.now (write a.1.1.1.0.now) (gave_back r e.1.1.0.now [] []))
unfolding act
write_meets κs a r e = (tt, λ h. h)

pub lose-meets : (κs : Lfts 0) (a : Dens κs lose-kinds.ps) (r : Handed) (e : AtExit (ended_of 0 lose-kinds.ps lose-kinds.r) κs)
    → loses.Asked κs a
    × (loses.Learnt κs a r e
    → (area : List ℕ) → Meets (on a.0 a.1.0) area (lose a.1.1.0) (gave_back r area [] []))
unfolding act
lose-meets κs a r e = (tt, λ h. h)

pub repair-meets : (κs : Lfts 4) (a : Dens κs repair-kinds.ps) (r : Handed) (e : AtExit (ended_of 4 repair-kinds.ps repair-kinds.r) κs)
    → repairs.Asked κs a
    × (repairs.Learnt κs a r e
    → Meets (on a.0 a.1.0) a.1.1.0.now (repair a.1.1.1.0.now a.1.1.1.1.0.now a.1.1.1.1.1.0.now) (gave_back r e.1.1.0.now [] []))
unfolding act
repair-meets κs a r e = (tt, λ h. h)

pub read_meets : (κs : Lfts 3) (a : Dens κs read-kinds.ps) (r : Handed) (e : AtExit (ended_of 3 read-kinds.ps read-kinds.r) κs)
    → reads.Asked κs a
    × (reads.Learnt κs a r e
    → Meets (on a.0 a.1.0) a.1.1.0.now (read a.1.1.1.0.now a.1.1.1.1.0.now) (gave_back r a.1.1.0.now e.1.1.1.1.0.now []))
unfolding act
read_meets κs a r e = (tt, λ h. h)

pub read-careful-meets : (κs : Lfts 3) (a : Dens κs careful-kinds.ps) (r : Handed) (e : AtExit (ended_of 3 careful-kinds.ps careful-kinds.r) κs)
    → carefuls.Asked κs a
    × (carefuls.Learnt κs a r e
    → Meets (on a.0 a.1.0) a.1.1.0.now (careful a.1.1.1.0.now a.1.1.1.1.0.now) (gave_back r a.1.1.0.now e.1.1.1.1.0.now []))
unfolding act
read-careful-meets κs a r e = (tt, λ h. h)

pub edit-meets : (κs : Lfts 3) (a : Dens κs edit-kinds.ps) (r : Handed) (e : AtExit (ended_of 3 edit-kinds.ps edit-kinds.r) κs)
    → edits.Asked κs a
    × (edits.Learnt κs a r e
    → Meets (on a.0 a.1.0) a.1.1.0.now (edit a.1.1.1.0 a.1.1.1.1.0.now a.1.1.1.1.1.0.now) (gave_back r e.1.1.0.now [] []))
unfolding act
edit-meets κs a r e = (tt, λ h. h)

pub move-meets : (κs : Lfts 3) (a : Dens κs move-kinds.ps) (r : Handed) (e : AtExit (ended_of 3 move-kinds.ps move-kinds.r) κs)
    → moves.Asked κs a
    × (moves.Learnt κs a r e
    → let b = a.1.1.1 in
    Meets (on a.0 a.1.0) a.1.1.0.now (move b.0 b.1.0 b.1.1.0.now b.1.1.1.0.now) (gave_back r e.1.1.0.now [] []))
unfolding act
move-meets κs a r e = (tt, λ h. h)

pub start-meets : (κs : Lfts 4) (a : Dens κs start-kinds.ps) (r : Handed) (e : AtExit (ended_of 4 start-kinds.ps start-kinds.r) κs)
    → starts.Asked κs a
    × (starts.Learnt κs a r e
    → Meets (on a.0 a.1.0) a.1.1.0.now (start a.1.1.1.0.now a.1.1.1.1.0.now a.1.1.1.1.1.0.now) (gave_back r a.1.1.0.now [] []))
unfolding act
start-meets κs a r e = (tt, λ h. h)

pub step-meets : (κs : Lfts 2) (a : Dens κs step-kinds.ps) (r : Handed) (e : AtExit (ended_of 2 step-kinds.ps step-kinds.r) κs)
    → steps.Asked κs a
    × (steps.Learnt κs a r e
    → Meets (on a.0 a.1.0) a.1.1.0.now (step a.1.1.1.1.0 a.1.1.1.0.now) (gave_back r e.1.1.0.now [] e.1.1.1.0.now))
unfolding act
step-meets κs a r e = (tt, λ h. h)
