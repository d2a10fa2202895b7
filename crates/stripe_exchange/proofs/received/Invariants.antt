-- `stripe_exchange::received` meets its contract: what is filled in, before what was there.
-- Assumes nothing.
use Rattle.std.proofs.Common.{◌≡◌, ◌+◌, ◌*◌, ◌++◌, drop, get_or}
use Rattle.lists.specs.Lists.{tabulate}
use Rattle.stripe_exchange.proofs.received.Given as goal

abbrev pub invariant-loop-t : goal.invariant-loop-t
invariant-loop-t l = l.out ≡ tabulate l.t (λ t. get_or l.packets (t * l.w + (l.s * 2 + l.b)) 0) ++ drop l.t l.initial.out
