-- `edit_stripe::values_in` meets its contract. The loop's invariant: the rows so far are in their places.
-- Assumes nothing.
use Rattle.std.proofs.Common.{◌≡◌, ◌++◌, ◌*◌, length, drop}
use Rattle.lists.specs.Lists.{join, piece}
use Rattle.row_values.specs.Steps.{row_sums}
use Rattle.edit_stripe.proofs.values_in.Given as goal

abbrev pub invariant-loop-t : goal.invariant-loop-t
invariant-loop-t l =
    (l.out ≡ join l.t (λ t. row_sums 32 (piece 32 t l.rows) l.powers) ++ drop (l.t * 32) l.initial.out) × (length l.out ≡ length l.initial.out)
