-- `lagrange_rows::products_after` meets its contract: the rows from t on are done, and those before it as they came.
-- Assumes nothing.
use Rattle.std.proofs.Common.{◌≡◌}
use Rattle.lagrange_rows.proofs.Weights.{after_row, left}
use Rattle.lagrange_rows.proofs.products_after.Given as goal

abbrev pub invariant-loop-t : goal.invariant-loop-t
invariant-loop-t l = (l.rows ≡ left l.points l.boards l.xs l.t) × (l.row ≡ after_row l.points l.xs l.t)
