-- `line_tests::apart` meets its contract. The loop's invariant: the test of what is left is the test of the whole.
-- Assumes nothing.
use Rattle.std.proofs.Common.{◌≡◌, drop}
use Rattle.lists.specs.Tests.{apart}
use Rattle.line_tests.proofs.apart.Given as goal

abbrev pub invariant-loop-board : goal.invariant-loop-board
invariant-loop-board l = apart l.boards (drop l.board-index l.named) ≡ apart l.boards l.named
