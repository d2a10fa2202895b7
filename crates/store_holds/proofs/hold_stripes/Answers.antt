-- `store_holds::hold_stripes` meets its contract. The loop's invariant: each of the two holds, or holds not, the stripes that were looked at.
-- Assumes nothing.
use Rattle.std.proofs.Common.{◌+◌, ◌<◌, ◌∙◌, arith}
use borrow.Author.Tests.{not-true}
use Rattle.sizes.specs.Sizing.{α}
use Rattle.sizes.proofs.Legal.{row_fits}
use Rattle.decode_laws.proofs.Held.{placed-before}
use Rattle.stripe_holds.proofs.Turned.{turned-low}
use Rattle.store_holds.proofs.Turned.{turn, all-looked, failed-there}
use Rattle.store_holds.proofs.hold_stripes.Goals as goal

pub hold_stripe-held-requires : goal.hold_stripe-held-requires
hold_stripe-held-requires c =
    let a = c.args in
    let p = c.requires in
    let l = c.loop-t in
    let s = c.stripe_after-s in
    let low : s.result < a.stripes = omega (arith, s.ensures, turned-low a.from a.stripes l.t c.loop-t-test.true) in
    let row = row_fits s.result a.stripes (α a.sizes) low in (
      p.0,
      p.1,
      placed-before a.sizes a.starts.now a.area.now (s.result + 1) a.stripes (omega (arith, low)) p.2,
      omega (arith, low, p.3),
      p.4,
      p.5,
      p.6,
      omega (arith, row, p.7),
      p.8,
      omega (arith, row, p.9),
      p.10,
      p.11,
      p.12,
      l.invariant.2,
      l.invariant.3,
    )

-- neither can hold its share
pub returns-then-not-held-2-clause-first_value : goal.returns-then-not-held-2-clause-first_value
returns-then-not-held-2-clause-first_value c =
    let a = c.args in
    let l = c.loop-t in
    failed-there a.sizes a.points.now a.boards.now a.starts.now a.area.now a.first a.p a.from a.stripes (l.t + 1) _ (omega (arith, c.loop-t-test.true))
    (turn a.sizes a.points.now a.boards.now a.starts.now a.area.now a.first a.p a.from a.stripes l.t _ _ _ l.invariant.0 c.stripe_after-s.ensures c.hold_stripe-held.ensures.first_value)
    (not-true _ c.if-not-held.true)

pub returns-then-not-held-2-clause-second_value : goal.returns-then-not-held-2-clause-second_value
returns-then-not-held-2-clause-second_value c =
    let a = c.args in
    let l = c.loop-t in
    failed-there a.sizes a.points.now a.boards.now a.starts.now a.area.now a.second a.q a.from a.stripes (l.t + 1) _ (omega (arith, c.loop-t-test.true))
    (turn a.sizes a.points.now a.boards.now a.starts.now a.area.now a.second a.q a.from a.stripes l.t _ _ _ l.invariant.1 c.stripe_after-s.ensures c.hold_stripe-held.ensures.second_value)
    (not-true _ c.if-not-held-2.true)

pub loop-t-preserved : goal.loop-t-preserved
loop-t-preserved c =
    let a = c.args in
    let l = c.loop-t in (
      turn a.sizes a.points.now a.boards.now a.starts.now a.area.now a.first a.p a.from a.stripes l.t _ _ _ l.invariant.0 c.stripe_after-s.ensures c.hold_stripe-held.ensures.first_value,
      turn a.sizes a.points.now a.boards.now a.starts.now a.area.now a.second a.q a.from a.stripes l.t _ _ _ l.invariant.1 c.stripe_after-s.ensures c.hold_stripe-held.ensures.second_value,
      c.hold_stripe-held.auto.u ∙ l.invariant.2,
      c.hold_stripe-held.auto.rows ∙ l.invariant.3,
    )

pub returns-clause-first_value : goal.returns-clause-first_value
returns-clause-first_value c =
    let a = c.args in
    let l = c.loop-t in
    all-looked a.sizes a.points.now a.boards.now a.starts.now a.area.now a.first a.p a.from a.stripes l.t _ (omega (arith, c.loop-t-test.false, l.auto.t-end)) l.invariant.0

pub returns-clause-second_value : goal.returns-clause-second_value
returns-clause-second_value c =
    let a = c.args in
    let l = c.loop-t in
    all-looked a.sizes a.points.now a.boards.now a.starts.now a.area.now a.second a.q a.from a.stripes l.t _ (omega (arith, c.loop-t-test.false, l.auto.t-end)) l.invariant.1
