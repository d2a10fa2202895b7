-- `line_tests::zero_from` meets its contract. The loop's invariant: the test of what is left is the test of all from `from` on.
-- Assumes nothing.
use Rattle.std.proofs.Common.{◌≡◌, eqb, drop}
use Rattle.lists.specs.Tests.{every}
use Rattle.line_tests.proofs.zero_from.Given as goal

abbrev pub invariant-loop-i : goal.invariant-loop-i
invariant-loop-i l = every (λ x. eqb x 0) (drop l.i l.points) ≡ every (λ x. eqb x 0) (drop l.from l.points)
