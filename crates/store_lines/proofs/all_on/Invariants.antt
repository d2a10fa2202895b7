-- `store_lines::all_on` meets its contract. The loop's invariant: the test of what is left is the test of the whole.
-- Assumes nothing.
use Rattle.std.proofs.Common.{◌≡◌, false, get_or, drop}
use Rattle.lists.specs.Tests.{every}
use Rattle.store_lines.proofs.all_on.Given as goal

abbrev pub invariant-loop-board : goal.invariant-loop-board
invariant-loop-board l = every (λ i. get_or l.marks i false) (drop l.board-index l.boards) ≡ every (λ i. get_or l.marks i false) l.boards
