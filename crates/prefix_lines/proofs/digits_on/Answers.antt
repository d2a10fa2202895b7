-- `prefix_lines::digits_on` meets its contract: a digit more, the end of the line, or no further.
-- Assumes nothing.
use Rattle.std.proofs.Common.{◌≡◌, refl, sym, ◌∙◌, arith}
use Rattle.prefix_steps.proofs.Steps.{goes-stop, stopped-range}
use Rattle.prefix_lines.proofs.Digits.{digits_more, digits-end, digits-stop, digits-past}
use Rattle.prefix_lines.proofs.digits_on.Goals as goal

pub loop-i-init : goal.loop-i-init
loop-i-init c = (λ go. refl, c.requires.0, omega arith)

pub loop-i-preserved : goal.loop-i-preserved
loop-i-preserved c =
    let a = c.args in
    let m = digits_more a.text.now a.lo a.hi c.loop-i.v c.loop-i.i c.loop-i-test.true c.in-More.next
    (sym c.next_digit.ensures ∙ c.in-More.is) in
    (λ go. m.0 go ∙ c.loop-i.invariant.0 go, m.1, omega arith)

pub returns-in-End : goal.returns-in-End
returns-in-End c =
    let a = c.args in
    let m = digits-end a.text.now a.lo a.hi c.loop-i.v c.loop-i.i c.loop-i-test.true (sym c.next_digit.ensures ∙ c.in-End.is) in
    (λ go. sym (c.loop-i.invariant.0 go) ∙ m.0 go, λ e. (m.1, c.loop-i.invariant.1))

pub returns-in-Stop : goal.returns-in-Stop
returns-in-Stop c =
    let a = c.args in (
      goes-stop a.text.now a.at _ c.stopped.result c.loop-i.i c.stopped.ensures
          (λ go. sym (c.loop-i.invariant.0 go) ∙ digits-stop a.text.now a.lo a.hi c.loop-i.v c.loop-i.i c.loop-i-test.true
          (sym c.next_digit.ensures ∙ c.in-Stop.is) go),
      stopped-range c.stopped.result c.loop-i.i a.lo a.hi c.stopped.ensures,
    )

pub returns : goal.returns
returns c =
    let a = c.args in
    let p : c.loop-i.i ≡ c.max.result = omega arith in (
      goes-stop a.text.now a.at _ c.stopped-2.result c.max.result c.stopped-2.ensures
          (λ go. sym (c.loop-i.invariant.0 go) ∙ digits-past a.text.now a.lo a.hi c.loop-i.v c.loop-i.i c.loop-i-test.false go ∙ p),
      stopped-range c.stopped-2.result c.max.result a.lo a.hi c.stopped-2.ensures,
    )
