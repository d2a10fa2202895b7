-- `lagrange_rows::divide` meets its contract: the callees' contracts, put together.
-- Assumes nothing.
use Rattle.std.proofs.Common.{refl, arith}
use Rattle.lagrange_rows.proofs.Weights.{divided}
use Rattle.lagrange_rows.proofs.divide.Goals as goal

pub returns : goal.returns
returns c =
    let a = c.args in
    divided a.row.now a.after.now a.inverses.now _ _ a.own _ c.requires.0 (omega arith) (omega arith) c.scale_by.ensures refl c.scale.ensures
