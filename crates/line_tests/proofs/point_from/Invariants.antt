-- `line_tests::point_from` meets its contract. The loop's invariant: the test of what is left is the test of all from `from` on.
-- Assumes nothing.
use Rattle.std.proofs.Common.{◌≡◌, drop}
use Rattle.lists.specs.Tests.{among}
use Rattle.line_tests.proofs.point_from.Given as goal

abbrev pub invariant-loop-i : goal.invariant-loop-i
invariant-loop-i l = among (drop l.i l.points) l.x ≡ among (drop l.from l.points) l.x
