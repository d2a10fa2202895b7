-- The loop's invariant: the first i bytes are those emitted, the state is the one after i steps, and the rest is as it was.
-- Assumes nothing.
use Rattle.std.proofs.Common.{◌≡◌, ◌++◌, length, drop}
use Rattle.lists.specs.Lists.{tabulate}
use Rattle.generator.specs.Generator.{after}
use Rattle.generator.proofs.Laws.{byte_at}
use Rattle.generator.proofs.fill.Given as goal

abbrev pub invariant-loop-i : goal.invariant-loop-i
invariant-loop-i l = record {
  bytes : l.out ≡ tabulate l.i (byte_at l.seed) ++ drop l.i l.fn.out;
  state : l.state ≡ after l.i l.seed;
  long : length l.out ≡ length l.fn.out;
}
