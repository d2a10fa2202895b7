-- `padded::pad` meets its contract. The loop's invariant: the bytes so far, before what was there.
-- Assumes nothing.
use Rattle.std.proofs.Common.{◌≡◌, ◌+◌, ◌++◌, length, get_or, drop}
use Rattle.lists.specs.Lists.{tabulate}
use Rattle.padded.proofs.pad.Given as goal

abbrev pub invariant-loop-t : goal.invariant-loop-t
invariant-loop-t l = (l.out ≡ tabulate l.t (λ t. get_or l.file (l.base + t) 0) ++ drop l.t l.initial.out) × (length l.out ≡ length l.initial.out)
