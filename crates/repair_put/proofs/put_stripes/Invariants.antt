-- `repair_put::put_stripes` meets its contract. The loop's invariant: the stripes of the fresh boards so far are put.
-- Assumes nothing.
use Rattle.std.proofs.Common.{◌≡◌, ◌+◌, ◌*◌, get_or}
use Rattle.sizes.specs.Sizing.{α}
use Rattle.area_puts.specs.Steps.{puts}
use Rattle.repair_sent.specs.Steps.{stripe_by}
use Rattle.repair_put.proofs.put_stripes.Given as goal

abbrev pub invariant-loop-a : goal.invariant-loop-a
invariant-loop-a l =
    l.area
    ≡ puts (λ b. get_or l.fresh b 0 * l.part + l.s * α l.sizes) (stripe_by l.sizes l.c l.lanes l.rows l.fresh l.seconds l.gs) l.a l.initial.area
