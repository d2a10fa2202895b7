-- `store_lines::marks_on` meets its contract. The loop's invariant: the boards that are left make of the marks what all make of the first.
-- Assumes nothing.
use Rattle.std.proofs.Common.{◌≡◌, length, drop}
use Rattle.store_spec.specs.Record.{turn_on}
use Rattle.store_lines.proofs.marks_on.Given as goal

abbrev pub invariant-loop-board : goal.invariant-loop-board
invariant-loop-board l = (turn_on (drop l.board-index l.boards) l.marks ≡ turn_on l.boards l.initial.marks) × (length l.marks ≡ length l.initial.marks)
