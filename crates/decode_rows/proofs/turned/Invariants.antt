-- `decode_rows::turned` meets its contract: the columns so far, before what was there.
-- Assumes nothing.
use Rattle.std.proofs.Common.{◌≡◌, ◌+◌, ◌*◌, drop, ◌++◌}
use Rattle.lists.specs.Lists.{tabulate, join}
use Rattle.decode_laws.specs.Steps.{cell}
use Rattle.decode_rows.proofs.turned.Given as goal

abbrev pub invariant-loop-i : goal.invariant-loop-i
invariant-loop-i l = l.out ≡ join l.i (λ i. tabulate l.m (λ j. cell l.rows (l.from + j) i)) ++ drop (l.i * l.m) l.initial.out
