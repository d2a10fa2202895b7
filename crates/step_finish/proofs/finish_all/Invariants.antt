-- `step_finish::finish_all` meets its contract: the shares of the fresh boards passed are put, each at its place.
-- Assumes nothing.
use Rattle.std.proofs.Common.{◌≡◌, ◌*◌, get_or}
use Rattle.sizes.specs.Sizing.{α}
use Rattle.area_puts.specs.Steps.{puts}
use Rattle.step_laws.specs.Steps.{share_at}
use Rattle.step_finish.proofs.finish_all.Given as goal

abbrev pub invariant-loop-a : goal.invariant-loop-a
invariant-loop-a l =
    l.area
    ≡ puts (λ b. get_or l.fresh b 0 * (l.capacity * α l.sizes)) (share_at l.sizes l.points l.stripes l.fresh l.helpers l.standins l.packets) l.a l.initial.area
