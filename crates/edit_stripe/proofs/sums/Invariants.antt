-- `edit_stripe::sums` meets its contract: the sum of the rows so far.
-- Assumes nothing.
use Rattle.std.proofs.Common.{◌≡◌, ◌≤◌, length}
use Rattle.row_values.proofs.Sums.{sums_to}
use Rattle.edit_stripe.proofs.sums.Given as goal

abbrev pub invariant-loop-t : goal.invariant-loop-t
invariant-loop-t l = (l.out ≡ sums_to l.t (length l.initial.out) l.values l.rows) × (length l.out ≡ length l.initial.out) × (length l.initial.out ≤ 32)
