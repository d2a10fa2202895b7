-- `row_values::emit_turned` meets its contract: the bytes so far, before what was there, and the place of the next.
-- Assumes nothing.
use Rattle.std.proofs.Common.{◌≡◌, ◌+◌, ◌%◌, ◌<◌, get_or, drop, ◌++◌}
use Rattle.lists.specs.Lists.{tabulate}
use Rattle.row_values.proofs.emit_turned.Given as goal

abbrev pub invariant-loop-t : goal.invariant-loop-t
invariant-loop-t l =
    (l.out ≡ tabulate l.t (λ t. get_or l.row ((l.i + t) % l.n) 0) ++ drop l.t l.initial.out) × (l.b ≡ (l.i + l.t) % l.n) × (l.b < l.n)
