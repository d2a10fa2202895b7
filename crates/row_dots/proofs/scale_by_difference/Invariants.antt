-- `row_dots::scale_by_difference` meets its contract: the bytes so far are multiplied, and the rest is as it was.
-- Assumes nothing.
use Rattle.std.proofs.Common.{◌≡◌, ◌++◌, length, get_or, drop}
use Rattle.lists.specs.Lists.{tabulate}
use Rattle.gf256.specs.Field.{add, mul}
use Rattle.row_dots.proofs.scale_by_difference.Given as goal

abbrev pub invariant-loop-j : goal.invariant-loop-j
invariant-loop-j l = (l.a ≡ tabulate l.j (λ j. mul (add (get_or l.ys j 0) l.x) (get_or l.initial.a j 0)) ++ drop l.j l.initial.a) × (length l.a ≡ length l.initial.a)
