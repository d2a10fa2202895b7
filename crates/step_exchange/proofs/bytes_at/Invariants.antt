-- `step_exchange::bytes_at` meets its contract: the bytes of the stripes so far are put at the place, and what is heard stays.
-- Assumes nothing.
use Rattle.std.proofs.Common.{◌≡◌, ◌*◌, length, take, drop}
use Rattle.lists.specs.Lists.{tabulate, put}
use Rattle.mbcr.specs.Rebuild.{received}
use Rattle.lagrange_factors.specs.Steps.{dot_of}
use Rattle.step_exchange.proofs.bytes_at.Given as goal

abbrev pub invariant-loop-s : goal.invariant-loop-s
invariant-loop-s l = record {
  written : l.packets
      ≡ put l.initial.packets l.at (tabulate l.s (λ s. dot_of l.ff (received l.sizes l.stripes 0 s (take (l.sizes.d * (2 * l.stripes)) (drop l.from l.initial.packets)))));
  long : length l.packets ≡ length l.initial.packets;
}
