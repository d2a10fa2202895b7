-- `lagrange_factors::column` meets its contract: the bytes so far, before 00.
-- Assumes nothing.
use Rattle.std.proofs.Common.{◌≡◌, ◌+◌, ◌*◌, get_or, drop, ◌++◌}
use Rattle.lists.specs.Lists.{tabulate}
use Rattle.lagrange_factors.proofs.column.Given as goal

abbrev pub invariant-loop-t : goal.invariant-loop-t
invariant-loop-t l = l.out ≡ tabulate l.t (λ t. get_or l.rows (t * 32 + l.i) 0) ++ drop l.t l.initial.out
