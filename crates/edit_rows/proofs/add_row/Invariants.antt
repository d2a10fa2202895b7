-- `edit_rows::add_row` meets its contract: the bytes so far are sums, and the rest is as it was.
-- Assumes nothing.
use Rattle.std.proofs.Common.{◌≡◌, get_or, drop, ◌++◌}
use Rattle.lists.specs.Lists.{tabulate}
use Rattle.gf256.specs.Field.{add}
use Rattle.edit_rows.proofs.add_row.Given as goal

abbrev pub invariant-loop-j : goal.invariant-loop-j
invariant-loop-j l = l.out ≡ tabulate l.j (λ j. add (get_or l.initial.out j 0) (get_or l.row j 0)) ++ drop l.j l.initial.out
