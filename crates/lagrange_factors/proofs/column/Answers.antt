-- `lagrange_factors::column` meets its contract: the bytes so far, before 00.
-- Assumes nothing.
use Rattle.std.proofs.Common.{length, refl, arith}
use Rattle.lists.proofs.Pieces.{fill-loop}
use Rattle.lagrange_factors.proofs.Values.{column-end}
use Rattle.lagrange_factors.proofs.column.Goals as goal

pub loop-t-preserved : goal.loop-t-preserved
loop-t-preserved c = fill-loop _ _ c.loop-t.out c.loop-t.t _ (omega arith) refl c.loop-t.invariant

pub returns : goal.returns
returns c = column-end _ c.args.m (length c.args.out.now) c.loop-t.t _ c.loop-t.out (omega arith) (omega arith) c.clear.ensures c.loop-t.invariant
