-- `byte_factors::factors_of` meets its contract: the factors so far, before 00.
-- Assumes nothing.
use Rattle.std.proofs.Common.{◌≡◌, drop, ◌++◌}
use Rattle.lists.specs.Lists.{tabulate}
use Rattle.lagrange.specs.Steps.{weight}
use Rattle.byte_factors.proofs.factors_of.Given as goal

abbrev pub invariant-loop-t : goal.invariant-loop-t
invariant-loop-t l = l.out ≡ tabulate l.t (λ t. weight l.xs t l.y) ++ drop l.t l.initial.out
