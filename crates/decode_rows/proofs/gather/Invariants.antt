-- `decode_rows::gather` meets its contract: what is filled in, before what was there.
-- Assumes nothing.
use Rattle.std.proofs.Common.{◌≡◌, ◌+◌, drop, ◌++◌}
use Rattle.lists.specs.Lists.{tabulate}
use Rattle.decode_laws.specs.Steps.{cell}
use Rattle.decode_rows.proofs.gather.Given as goal

abbrev pub invariant-loop-t : goal.invariant-loop-t
invariant-loop-t l = l.out ≡ tabulate l.t (λ j. cell l.rows (l.from + j) l.i) ++ drop l.t l.initial.out
