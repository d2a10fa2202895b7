-- `edit_stripe::sums` meets its contract: the sum of the rows so far.
-- Assumes nothing.
use Rattle.std.proofs.Common.{refl, sym, ◌∙◌, arith, length}
use Rattle.lagrange_factors.proofs.Values.{row_fits}
use Rattle.row_values.proofs.Sums.{sums-start, sums-turn, sums-end}
use Rattle.edit_stripe.proofs.sums.Goals as goal

pub loop-t-init : goal.loop-t-init
loop-t-init c =
    let g = c.clear.auto.out in
    (sums-start _ _ c.args.values.now c.args.rows.now _ c.clear.ensures (sym g), refl, omega (arith, g, c.requires.2))

pub loop-t-preserved : goal.loop-t-preserved
loop-t-preserved c =
    let l = c.loop-t in
    let a = c.args in (
      sums-turn l.t _ a.values.now a.rows.now l.out _ l.invariant.2 (omega (arith, row_fits l.t (length a.values.now) c.loop-t-test.true, c.requires.0)) l.invariant.0
          c.add_times.ensures,
      c.add_times.auto.acc ∙ l.invariant.1,
      l.invariant.2,
    )

pub returns : goal.returns
returns c =
    let l = c.loop-t in
    sums-end l.t _ _ c.args.values.now c.args.rows.now l.out (omega (arith, l.auto.t-end, c.loop-t-test.false)) c.clear.auto.out l.invariant.0
