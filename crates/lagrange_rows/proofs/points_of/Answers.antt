-- `lagrange_rows::points_of` meets its contract: the points so far, before what was there.
-- Assumes nothing.
use Rattle.std.proofs.Common.{◌<◌, length, get_or, refl, ◌∙◌, arith}
use Rattle.lists.proofs.Alls.{all-at}
use Rattle.lists.proofs.Boards.{below_all}
use Rattle.lists.proofs.Pieces.{fill-loop, tabulate-map}
use Rattle.row_dots.proofs.Rows.{changed}
use Rattle.lagrange_rows.proofs.points_of.Goals as goal

pub bounds-points-boards : goal.bounds-points-boards
bounds-points-boards c =
    let a = c.args in
    all-at (λ b. b < length a.points.now) 0 a.boards.now (below_all _ a.boards.now c.requires.0) c.loop-t.t (omega arith)

pub loop-t-preserved : goal.loop-t-preserved
loop-t-preserved c = fill-loop _ c.args.out.now c.loop-t.out c.loop-t.t _ (omega arith) refl c.loop-t.invariant

pub returns : goal.returns
returns c =
    let a = c.args in
    changed _ a.out.now c.loop-t.out c.loop-t.t (omega arith) (omega arith) c.loop-t.invariant
    ∙ tabulate-map (λ b. get_or a.points.now b 0) (length a.out.now) a.boards.now 0 (omega arith)
