-- `step_packet::carry_all` meets its contract: what is carried, and then what is left, is all.
-- Assumes nothing.
use Rattle.std.proofs.Common.{ℕ, ◌+◌, ◌*◌, ◌∙◌, ap, length, arith}
use Prim.Native.Nat.{min}
use Rattle.sizes.proofs.Legal.{legal-facts}
use Rattle.step_laws.proofs.Now.{carry-turn}
use Rattle.step_laws.proofs.Facts.{few-packets}
use Rattle.step_packet.proofs.carry_all.Goals as goal

pub overflow_add-end : goal.overflow_add-end
overflow_add-end c =
    let few = few-packets c.args.sizes (legal-facts _ c.requires.0) (length c.args.fresh.now) c.requires.4.few-fresh in
    omega arith

pub place-at-requires : goal.place-at-requires
place-at-requires c =
    let p = c.requires in
    let few = few-packets c.args.sizes (legal-facts _ p.0) (length c.args.fresh.now) p.4.few-fresh in
    let h = p.4.helper-count in
    (omega arith, omega arith, omega arith)

pub carry_packet-requires : goal.carry_packet-requires
carry_packet-requires c =
    let a = c.args in
    let p = c.requires in
    let l = c.loop-q in
    let at = c.place-at.ensures ∙ ap (λ (x : ℕ). (l.q + min l.q x) * a.stripes) p.4.helper-count in
    (p.0, p.1, p.2, p.3, p.4, p.5, p.6, p.7, omega arith, at, l.auto.packets ∙ p.9)

pub loop-q-preserved : goal.loop-q-preserved
loop-q-preserved c =
    let a = c.args in
    let l = c.loop-q in
    let at = c.place-at.ensures ∙ ap (λ (x : ℕ). (l.q + min l.q x) * a.stripes) c.requires.4.helper-count in
    carry-turn a.sizes a.points.now a.capacity a.stripes a.fresh.now a.helpers.now a.standins.now a.area.now l.q (a.from + a.count) _ l.packets _ _
    c.loop-q-test.true at c.carry_packet.ensures l.invariant
