-- `step_packet::carry_all` meets its contract: what is carried, and then what is left, is all.
-- Assumes nothing.
use Rattle.std.proofs.Common.{◌≡◌, ◌-◌}
use Rattle.step_laws.specs.Steps.{carry_at}
use Rattle.step_packet.proofs.carry_all.Given as goal

abbrev pub invariant-loop-q : goal.invariant-loop-q
invariant-loop-q l =
    carry_at l.sizes l.points l.capacity l.stripes l.fresh l.helpers l.standins l.area l.q (l.end - l.q) l.packets
    ≡ carry_at l.sizes l.points l.capacity l.stripes l.fresh l.helpers l.standins l.area l.from l.count l.initial.packets
