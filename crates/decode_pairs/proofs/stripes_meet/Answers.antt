-- `decode_pairs::stripes_meet` meets its contract: the tests that are left are the tests of the whole.
-- Assumes nothing.
use Rattle.std.proofs.Common.{◌∙◌, sym, ap, ◌+◌, arith}
use mathlib.Core.Bool.{not}
use borrow.Author.Tests.{not-true, not-false}
use Rattle.decode_laws.proofs.Loops.{alls-no, alls-next, alls-end}
use Rattle.decode_laws.proofs.Held.{placed-before}
use Rattle.decode_pairs.proofs.stripes_meet.Goals as goal

pub stripe_meets-requires : goal.stripe_meets-requires
stripe_meets-requires c =
    let a = c.args in
    let p = c.requires in
    let l = c.loop-s in (
      p.0,
      p.1,
      p.2,
      p.3,
      p.4,
      placed-before a.sizes a.starts.now a.bytes.now (l.s + 1) a.stripes (omega arith) p.5,
      omega arith,
      p.7,
      p.8,
      l.auto.fs ∙ p.9,
      l.auto.gs ∙ p.10,
    )

pub returns-then-not-stripe_meets : goal.returns-then-not-stripe_meets
returns-then-not-stripe_meets c =
    let l = c.loop-s in
    sym (sym l.invariant ∙ alls-no _ c.args.stripes l.s c.loop-s-test.true
    (sym c.stripe_meets.ensures ∙ not-true c.stripe_meets.result (ap not c.if-not-stripe_meets.true)))

pub loop-s-preserved : goal.loop-s-preserved
loop-s-preserved c =
    let l = c.loop-s in
    alls-next _ c.args.stripes l.s c.loop-s-test.true
    (sym c.stripe_meets.ensures ∙ not-false c.stripe_meets.result (ap not c.if-not-stripe_meets.false)) ∙ l.invariant

pub returns : goal.returns
returns c = let l = c.loop-s in sym (sym l.invariant ∙ alls-end _ c.args.stripes l.s c.loop-s-test.false)
