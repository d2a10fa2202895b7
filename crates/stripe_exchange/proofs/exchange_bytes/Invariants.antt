-- `stripe_exchange::exchange_bytes` meets its contract: the bytes of the stripes so far, before what was there.
-- Assumes nothing.
use Rattle.std.proofs.Common.{◌≡◌, ◌++◌, drop}
use Rattle.lists.specs.Lists.{tabulate}
use Rattle.mbcr.specs.Rebuild.{received}
use Rattle.lagrange_factors.specs.Steps.{dot_of}
use Rattle.stripe_exchange.proofs.exchange_bytes.Given as goal

abbrev pub invariant-loop-s : goal.invariant-loop-s
invariant-loop-s l = l.out ≡ tabulate l.s (λ s. dot_of l.ff (received l.sizes l.stripes 0 s l.packets)) ++ drop l.s l.initial.out
