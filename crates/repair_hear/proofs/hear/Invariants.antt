-- `repair_hear::hear` meets its contract: the bytes of the helpers so far, before what was there.
-- Assumes nothing.
use Rattle.std.proofs.Common.{◌≡◌, ◌*◌, ◌++◌, drop}
use Rattle.lists.specs.Lists.{tabulate, piece}
use Rattle.repair_hear.specs.Steps.{heard_first, heard_second}
use Rattle.repair_hear.proofs.hear.Given as goal

abbrev pub invariant-loop-p : goal.invariant-loop-p
invariant-loop-p l =
    (l.firsts ≡ tabulate l.p (heard_first l.w l.fl l.gl l.ff l.gf (λ j. piece l.a l.s (drop (j * l.part) l.area)) l.helpers) ++ drop l.p l.initial.firsts)
    × (l.seconds ≡ tabulate l.p (heard_second l.w l.fl l.gl l.ff l.gf (λ j. piece l.a l.s (drop (j * l.part) l.area)) l.helpers) ++ drop l.p l.initial.seconds)
