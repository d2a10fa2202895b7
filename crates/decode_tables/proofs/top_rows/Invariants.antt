-- `decode_tables::top_rows` meets its contract: the rows so far, before what was there.
-- Assumes nothing.
use Rattle.std.proofs.Common.{◌≡◌, ◌+◌, ◌*◌, ◌++◌, drop}
use Rattle.lists.specs.Lists.{tabulate, join, fit}
use Rattle.decode_laws.specs.Steps.{cell}
use Rattle.decode_tables.proofs.top_rows.Given as goal

abbrev pub invariant-loop-i : goal.invariant-loop-i
invariant-loop-i l = l.out ≡ join l.i (λ i. fit 32 (tabulate l.m (λ s. cell l.rows s (l.k + i)))) ++ drop (l.i * 32) l.initial.out
