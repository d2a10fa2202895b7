-- `repair_stripe::repair_stripes` meets its contract. The loop's invariant: the stripes so far of each fresh board are in its part.
-- Assumes nothing.
use Rattle.std.proofs.Common.{◌≡◌, ◌*◌, length, get_or, drop}
use Rattle.lists.specs.Lists.{join, piece}
use Rattle.sizes.specs.Sizing.{α}
use Rattle.area_puts.specs.Steps.{puts}
use Rattle.repair_stripe.specs.Steps.{rebuilt_by}
use Rattle.repair_stripe.proofs.repair_stripes.Given as goal

abbrev pub invariant-loop-s : goal.invariant-loop-s
invariant-loop-s l =
    l.area
    ≡ puts (λ a. get_or l.fresh a 0 * l.part)
    (λ a. join l.s (λ t. rebuilt_by l.sizes l.fl l.gl l.lanes l.ff l.gf l.rows (λ j. piece (α l.sizes) t (drop (j * l.part) l.initial.area)) l.fresh l.c l.named a))
    (length l.fresh) l.initial.area
