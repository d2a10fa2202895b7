-- `lagrange_rows::products_before` meets its contract: the rows so far, before what was there, and the next row.
-- Assumes nothing.
use Rattle.std.proofs.Common.{◌≡◌, ◌*◌, drop, ◌++◌}
use Rattle.lists.specs.Lists.{join}
use Rattle.lagrange_rows.specs.Steps.{before_row}
use Rattle.lagrange_rows.proofs.products_before.Given as goal

abbrev pub invariant-loop-t : goal.invariant-loop-t
invariant-loop-t l = (l.rows ≡ join l.t (before_row l.points l.xs) ++ drop (l.t * 32) l.initial.rows) × (l.row ≡ before_row l.points l.xs l.t)
