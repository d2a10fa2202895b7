-- `text_lines::in_order` meets its contract: a point at another place, or all at theirs.
-- Assumes nothing.
use Rattle.std.proofs.Common.{◌≤◌, length, sym, ◌∙◌, arith}
use Rattle.text_lines.proofs.Orders.{passed-one, ordered, unordered}
use Rattle.text_lines.proofs.in_order.Goals as goal

pub returns-then-from-i : goal.returns-then-from-i
returns-then-from-i c = sym (unordered c.args.points.now c.loop-i.i c.loop-i-test.true (λ e. c.if-from-i.true (c.from.ensures ∙ e)))

pub loop-i-preserved : goal.loop-i-preserved
loop-i-preserved c = passed-one c.args.points.now c.loop-i.i c.loop-i.invariant (sym c.from.ensures ∙ c.if-from-i.false)

pub returns : goal.returns
returns c =
    let e : length c.args.points.now ≤ c.loop-i.i = c.loop-i-test.false in
    sym (ordered c.args.points.now (λ t h. c.loop-i.invariant t (omega (arith, e, h))))
