-- `lagrange_rows::points_of` meets its contract: the points so far, before what was there.
-- Assumes nothing.
use Rattle.std.proofs.Common.{◌≡◌, get_or, drop, ◌++◌}
use Rattle.lists.specs.Lists.{tabulate}
use Rattle.lagrange_rows.proofs.points_of.Given as goal

abbrev pub invariant-loop-t : goal.invariant-loop-t
invariant-loop-t l = l.out ≡ tabulate l.t (λ t. get_or l.points (get_or l.boards t 0) 0) ++ drop l.t l.initial.out
