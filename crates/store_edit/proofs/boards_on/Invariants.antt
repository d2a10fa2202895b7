-- `store_edit::boards_on` meets its contract. The loop's invariant: the beginning of the list has the boards in service so far.
-- Assumes nothing.
use Rattle.std.proofs.Common.{◌≡◌, ◌≤◌, length, take}
use Rattle.edit_laws.specs.Steps.{serving_of}
use Rattle.store_edit.proofs.boards_on.Given as goal

abbrev pub invariant-loop-i : goal.invariant-loop-i
invariant-loop-i l = (take l.m l.out ≡ serving_of l.i l.marks) × (l.m ≤ l.i) × (length l.out ≡ length l.initial.out)
