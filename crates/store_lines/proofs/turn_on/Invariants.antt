-- `store_lines::turn_on` meets its contract. The loop's invariant: the marks so far, before what was there.
-- Assumes nothing.
use Rattle.std.proofs.Common.{◌≡◌, ◌++◌, length, drop, ltb}
use Rattle.lists.specs.Lists.{tabulate}
use Rattle.store_lines.proofs.turn_on.Given as goal

abbrev pub invariant-loop-i : goal.invariant-loop-i
invariant-loop-i l = (l.marks ≡ tabulate l.i (λ j. ltb j l.n) ++ drop l.i l.initial.marks) × (length l.marks ≡ length l.initial.marks)
