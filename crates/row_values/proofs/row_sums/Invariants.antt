-- `row_values::row_sums` meets its contract: the sum of the rows so far.
-- Assumes nothing.
use Rattle.std.proofs.Common.{◌≡◌, length}
use Rattle.row_values.proofs.Sums.{sums_to}
use Rattle.row_values.proofs.row_sums.Given as goal

abbrev pub invariant-loop-t : goal.invariant-loop-t
invariant-loop-t l = l.out ≡ sums_to l.t (length l.fn.out) l.values l.rows
