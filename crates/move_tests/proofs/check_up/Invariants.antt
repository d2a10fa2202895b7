-- `move_tests::check_up` meets its contract. The loop's invariant: the test of the boards that are left is the test of all.
-- Assumes nothing.
use Rattle.std.proofs.Common.{◌≡◌, false, get_or, drop}
use Rattle.lists.specs.Tests.{every}
use Rattle.move_tests.proofs.Tests.{all}
use Rattle.move_tests.proofs.check_up.Given as goal

abbrev pub invariant-loop-i : goal.invariant-loop-i
invariant-loop-i l =
    every (λ i. get_or l.marks i false) (drop l.i (all (λ i. get_or l.marks i false) l.n)) ≡ every (λ i. get_or l.marks i false) (all (λ i. get_or l.marks i false) l.n)
