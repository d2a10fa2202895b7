-- `running_lists::boards_of` meets its contract. The loop's invariant: the boards so far, before what was there.
-- Assumes nothing.
use Rattle.std.proofs.Common.{◌≡◌, ◌++◌, length, get_or, drop}
use Rattle.lists.specs.Lists.{tabulate}
use Rattle.running_lists.proofs.boards_of.Given as goal

abbrev pub invariant-loop-i : goal.invariant-loop-i
invariant-loop-i l = (l.boards ≡ tabulate l.i (λ t. get_or l.bytes t 0) ++ drop l.i l.initial.boards) × (length l.boards ≡ length l.initial.boards)
