-- `prefix_steps::name_on` meets its contract: byte by byte, as the definition counts.
-- Assumes nothing.
use Rattle.std.proofs.Common.{refl, sym, ◌∙◌}
use Rattle.prefix_steps.proofs.Steps.{goes-stop, name-more, name-other, name-past, name-ends}
use Rattle.prefix_steps.proofs.name_on.Goals as goal

pub loop-b-init : goal.loop-b-init
loop-b-init c go = refl

pub returns-then-text-i : goal.returns-then-text-i
returns-then-text-i c =
    let l = c.loop-b in
    let a = c.args in
    goes-stop a.text.now a.at _ c.stopped.result l.i c.stopped.ensures
    (λ go. sym (l.invariant (go 0)) ∙ name-past a.text.now a.name.now l.i l.b-index (go 0) c.if-text-i.true c.loop-b-test.true)

pub returns-then-text-i-2 : goal.returns-then-text-i-2
returns-then-text-i-2 c =
    let l = c.loop-b in
    let a = c.args in
    goes-stop a.text.now a.at _ c.stopped-then-text-i-2.result l.i c.stopped-then-text-i-2.ensures
    (λ go. sym (l.invariant (go 0)) ∙ name-other a.text.now a.name.now l.i l.b-index (go 0) c.if-text-i.false c.loop-b-test.true c.if-text-i-2.true)

pub loop-b-preserved : goal.loop-b-preserved
loop-b-preserved c go =
    let l = c.loop-b in
    let a = c.args in
    name-more a.text.now a.name.now l.i l.b-index go c.if-text-i.false c.loop-b-test.true c.if-text-i-2.false ∙ l.invariant go

pub returns : goal.returns
returns c go =
    let l = c.loop-b in
    sym (l.invariant (go 0)) ∙ name-ends c.args.text.now c.args.name.now l.i l.b-index (go 0) c.loop-b-test.false
