-- `edit_rows::change` meets its contract: the bytes so far are old against new, and the rest is as it was.
-- Assumes nothing.
use Rattle.std.proofs.Common.{◌≡◌, ◌+◌, get_or, drop, ◌++◌}
use Rattle.lists.specs.Lists.{tabulate}
use Rattle.edit_rows.specs.Steps.{changed_at}
use Rattle.edit_rows.proofs.change.Given as goal

abbrev pub invariant-loop-q : goal.invariant-loop-q
invariant-loop-q l = l.old ≡ tabulate l.q (λ q. changed_at l.offset l.bytes (l.from + q) (get_or l.initial.old q 0)) ++ drop l.q l.initial.old
