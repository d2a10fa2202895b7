-- `repair_sent::sent` meets its contract: the bytes of the partners so far, before what was there.
-- Assumes nothing.
use Rattle.std.proofs.Common.{◌≡◌, ◌+◌, ◌*◌, ◌++◌, get_or, drop}
use Rattle.lists.specs.Lists.{tabulate}
use Rattle.repair_rows.specs.Steps.{past}
use Rattle.repair_sent.proofs.sent.Given as goal

abbrev pub invariant-loop-u : goal.invariant-loop-u
invariant-loop-u l = l.out ≡ tabulate l.u (λ u. get_or l.gs (past l.a u * l.lanes + l.i) 0) ++ drop l.u l.initial.out
