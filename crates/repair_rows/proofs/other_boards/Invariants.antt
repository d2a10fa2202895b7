-- `repair_rows::other_boards` meets its contract: the boards so far, before what was there.
-- Assumes nothing.
use Rattle.std.proofs.Common.{◌≡◌, ◌++◌, get_or, drop}
use Rattle.lists.specs.Lists.{tabulate}
use Rattle.repair_rows.specs.Steps.{past}
use Rattle.repair_rows.proofs.other_boards.Given as goal

abbrev pub invariant-loop-u : goal.invariant-loop-u
invariant-loop-u l = l.out ≡ tabulate l.u (λ u. get_or l.fresh (past l.a u) 0) ++ drop l.u l.initial.out
