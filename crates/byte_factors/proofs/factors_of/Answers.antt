-- `byte_factors::factors_of` meets its contract: the factors so far, before 00.
-- Assumes nothing.
use Rattle.std.proofs.Common.{length, arith}
use Rattle.lists.proofs.Pieces.{fill-loop}
use Rattle.lagrange_factors.proofs.Values.{column-end}
use Rattle.byte_factors.proofs.factors_of.Goals as goal

pub loop-t-preserved : goal.loop-t-preserved
loop-t-preserved c = fill-loop _ _ c.loop-t.out c.loop-t.t _ (omega arith) c.factor.ensures c.loop-t.invariant

pub returns : goal.returns
returns c =
    let a = c.args in
    column-end _ (length a.xs.now) (length a.out.now) c.loop-t.t _ c.loop-t.out (omega arith) (omega arith) c.clear.ensures c.loop-t.invariant
