-- `lagrange_factors::boards_from` meets its contract: the boards so far, before what was there, and the next of them.
-- Assumes nothing.
use Rattle.std.proofs.Common.{◌+◌, ◌%◌, arith}
use Rattle.lists.proofs.Pieces.{fill-loop}
use Rattle.row_dots.proofs.Rows.{changed}
use Rattle.lagrange_factors.proofs.Values.{board-turn}
use Rattle.lagrange_factors.proofs.boards_from.Goals as goal

pub loop-t-preserved : goal.loop-t-preserved
loop-t-preserved c =
    let l = c.loop-t in
    let a = c.args in (
      fill-loop (λ t. (a.b + t) % a.n) a.out.now l.out l.t _ (omega arith) l.invariant.1 l.invariant.0,
      board-turn a.b l.t a.n l.a _ l.invariant.1 c.next-a.ensures,
    )

pub returns : goal.returns
returns c = changed _ c.args.out.now c.loop-t.out c.loop-t.t (omega arith) (omega arith) c.loop-t.invariant.0
