-- `stand_in::second_bytes` meets its contract: the bytes of the stripes so far, before what was there.
-- Assumes nothing.
use Rattle.std.proofs.Common.{◌≡◌, ◌+◌, ◌-◌, ◌++◌, take, drop}
use Rattle.lists.specs.Lists.{tabulate, piece}
use Rattle.lagrange_factors.specs.Steps.{dot_of}
use Rattle.stand_in.proofs.second_bytes.Given as goal

abbrev pub invariant-loop-s : goal.invariant-loop-s
invariant-loop-s l =
    l.out ≡ tabulate l.s (λ s. dot_of l.gf (take 1 (piece (l.w + l.d - 1) s l.held) ++ drop l.w (piece (l.w + l.d - 1) s l.held))) ++ drop l.s l.initial.out
