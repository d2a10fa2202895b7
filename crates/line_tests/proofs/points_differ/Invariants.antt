-- `line_tests::points_differ` meets its contract. The loop's invariant: the test of what is left is the test of the whole.
-- Assumes nothing.
use Rattle.std.proofs.Common.{◌≡◌, drop}
use Rattle.lists.specs.Tests.{different}
use Rattle.line_tests.proofs.points_differ.Given as goal

abbrev pub invariant-loop-i : goal.invariant-loop-i
invariant-loop-i l = different (drop l.i l.points) ≡ different l.points
