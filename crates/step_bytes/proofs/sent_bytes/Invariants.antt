-- `step_bytes::sent_bytes` meets its contract: what is filled in, before what was there.
-- Assumes nothing.
use Rattle.std.proofs.Common.{◌≡◌, ◌+◌, ◌*◌, ◌++◌, drop, get_or}
use Rattle.lists.specs.Lists.{tabulate}
use Rattle.step_bytes.proofs.sent_bytes.Given as goal

abbrev pub invariant-loop-u : goal.invariant-loop-u
invariant-loop-u l = l.out ≡ tabulate l.u (λ u. get_or l.sent (u * l.stripes + l.s) 0) ++ drop l.u l.initial.out
