-- `board_lines::put_points` meets its contract. The loop's invariant: the points so far, before what was there.
-- Assumes nothing.
use Rattle.std.proofs.Common.{length, length-set, ◌∙◌, arith}
use Rattle.lists.proofs.Pieces.{fill-loop, fill_end, fill-all}
use Rattle.board_lines.proofs.put_points.Goals as goal

pub loop-i-preserved : goal.loop-i-preserved
loop-i-preserved c =
    let l = c.loop-i in
    (fill-loop _ c.args.points.now l.points l.i _ (omega (arith, c.loop-i-test.true)) c.standard_point.ensures l.invariant.0, length-set l.points l.i _ ∙ l.invariant.1)

pub returns : goal.returns
returns c =
    let m = c.args.points.now in
    let l = c.loop-i in
    fill_end _ m l.points l.i (length m) (omega (arith, l.invariant.1, l.auto.i-end, c.loop-i-test.false)) l.invariant.0 ∙ fill-all _ m (length m) (omega arith)
