-- `lagrange_factors::factors_in` meets its contract: the callees' contracts, put together.
-- Assumes nothing.
use Rattle.std.proofs.Common.{length, arith}
use Rattle.lagrange_factors.proofs.Values.{column-is}
use Rattle.lagrange_factors.proofs.factors_in.Goals as goal

pub returns : goal.returns
returns c =
    let a = c.args in
    column-is a.points.now a.boards.now _ _ a.i (length a.out.now) (omega arith) c.lagrange_rows.ensures c.column.ensures
