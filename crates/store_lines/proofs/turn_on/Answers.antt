-- `store_lines::turn_on` meets its contract. The loop's invariant: the marks so far, before what was there.
-- Assumes nothing.
use Rattle.std.proofs.Common.{length-set, ◌∙◌, arith}
use Rattle.store_lines.proofs.Walks.{fill-marks, marks-filled}
use Rattle.store_lines.proofs.turn_on.Goals as goal

pub loop-i-preserved : goal.loop-i-preserved
loop-i-preserved c =
    let l = c.loop-i in
    (fill-marks _ c.args.marks.now l.marks l.i (omega (arith, c.loop-i-test.true)) l.invariant.0, length-set l.marks l.i _ ∙ l.invariant.1)

pub returns : goal.returns
returns c =
    let l = c.loop-i in
    l.invariant.0 ∙ marks-filled _ c.args.marks.now l.i (omega (arith, l.invariant.1, l.auto.i-end, c.loop-i-test.false))
