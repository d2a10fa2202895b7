-- `edit_stripe::lay_rows` meets its contract. The loop's invariant: the rows so far are in their places.
-- Assumes nothing.
use Rattle.std.proofs.Common.{◌≡◌, [], ◌++◌, ◌*◌, length, get_or, drop}
use Rattle.lists.specs.Lists.{join, fit}
use Rattle.mbcr.specs.Share.{grid}
use Rattle.edit_stripe.proofs.lay_rows.Given as goal

abbrev pub invariant-loop-i : goal.invariant-loop-i
invariant-loop-i l =
    (l.out ≡ join l.i (λ i. fit 32 (get_or (grid l.sizes l.u) i [])) ++ drop (l.i * 32) l.initial.out) × (length l.out ≡ length l.initial.out)
