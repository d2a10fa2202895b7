-- `check_lists::runs_differ` meets its contract. The loop's invariant: the test of what is left is the test of the whole.
-- Assumes nothing.
use Rattle.std.proofs.Common.{◌≡◌, ◌*◌, drop}
use Rattle.list_tests.proofs.Lists.{runs_differ}
use Rattle.check_lists.proofs.runs_differ.Given as goal

abbrev pub invariant-loop-a : goal.invariant-loop-a
invariant-loop-a l =
    runs_differ l.d l.e (drop l.a l.fresh) (drop (l.a * l.d) l.helpers) (drop (l.a * l.e) l.standins) ≡ runs_differ l.d l.e l.fresh l.helpers l.standins
