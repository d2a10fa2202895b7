-- `line_tests::below` meets its contract. The loop's invariant: the test of what is left is the test of the whole.
-- Assumes nothing.
use Rattle.std.proofs.Common.{◌≡◌, drop}
use Rattle.lists.specs.Tests.{below}
use Rattle.line_tests.proofs.below.Given as goal

abbrev pub invariant-loop-board : goal.invariant-loop-board
invariant-loop-board l = below l.n (drop l.board-index l.boards) ≡ below l.n l.boards
