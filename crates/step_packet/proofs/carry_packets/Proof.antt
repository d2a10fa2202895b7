-- `step_packet::carry_packets` meets its contract: the inverses are made once; what is carried by places is what is carried by the definition.
-- Assumes nothing.
use mathlib.Core.Path.{◌∙◌}
use Rattle.step_laws.proofs.Now.{carry-every}
use borrow.Author.Rules.{rules}
use Rattle.step_packet.proofs.carry_packets.Statement.{statement}
use Rattle.step_packet.proofs.carry_packets.Tie as tie

-- the places
abbrev fill-inverses-at-carry-all-arg : tie.After-carry_all-arg-1 → tie.After-fill_inverses
fill-inverses-at-carry-all-arg c = c.before.before.before

abbrev st-arg : tie.After-carry_all-arg-1 → tie.Start
st-arg c = (fill-inverses-at-carry-all-arg c).before.before.before.before.before.before.before.before

abbrev carry-end : tie.After-slice_known-2-1 → tie.After-carry_all
carry-end c = c.before.before

carry-all-requires : tie.Need-carry_all-requires
carry-all-requires c κs =
    let p = (st-arg c).requires in
    (p.0, p.1, p.2, (fill-inverses-at-carry-all-arg c).fill_inverses.ensures, p.3, p.4, p.5, p.6, p.7, p.8)

returns : tie.Need-returns
returns c =
    let a = (st-arg (carry-end c).before).args in
    let p = (st-arg (carry-end c).before).requires in
    λ s ez ep ec es. (carry-end c).carry_all.ensures
    ∙ carry-every a.sizes a.points.now a.capacity a.stripes a.fresh.now a.helpers.now a.standins.now a.area.now p.3 a.count a.from a.packets.now p.7
    s ez ep ec es

pub carry_packets_spec : {M : Type 1} → statement M
carry_packets_spec =
    tie.close
    (tie.spec
    (λ c. search rules)
    (λ c κs. search rules)
    (λ c. search rules)
    carry-all-requires
    (λ c. search rules)
    returns)
