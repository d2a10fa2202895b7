-- `lagrange_factors::boards_from` meets its contract: the boards so far, before what was there, and the next of them.
-- Assumes nothing.
use Rattle.std.proofs.Common.{◌≡◌, ◌+◌, ◌%◌, drop, ◌++◌}
use Rattle.lists.specs.Lists.{tabulate}
use Rattle.lagrange_factors.proofs.boards_from.Given as goal

abbrev pub invariant-loop-t : goal.invariant-loop-t
invariant-loop-t l = (l.out ≡ tabulate l.t (λ t. (l.b + t) % l.n) ++ drop l.t l.initial.out) × (l.a ≡ (l.b + l.t) % l.n)
