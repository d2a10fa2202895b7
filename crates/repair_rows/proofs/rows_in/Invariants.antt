-- `repair_rows::rows_in` meets its contract: the rows of the boards so far, before what was there.
-- Assumes nothing.
use Rattle.std.proofs.Common.{◌≡◌, ◌++◌, ◌*◌, drop}
use Rattle.lists.specs.Lists.{join}
use Rattle.repair_rows.specs.Steps.{fresh_rows}
use Rattle.repair_rows.proofs.rows_in.Given as goal

abbrev pub invariant-loop-a : goal.invariant-loop-a
invariant-loop-a l = l.rows ≡ join l.a (fresh_rows l.sizes l.c l.points l.fresh l.named) ++ drop (l.a * l.one) l.initial.rows
