-- `column_sums::product` meets its contract.
-- Assumes nothing.
use Rattle.std.proofs.Common.{rules}
use Rattle.row_sums.specs.Steps.{row_bytes}
use Rattle.row_sums.proofs.Tables.{product_is}
use Rattle.column_sums.proofs.product.Goals as goal

pub returns : goal.returns
returns c = λ row lr eq.
    product_is c.args.t.now row c.args.c (row_bytes c.plus.result) (row_bytes c.plus-low.result) (row_bytes c.plus-high.result)
    (row_bytes c.row_at.result) (row_bytes c.row_at-2.result) (row_bytes c.row_at-3.result) (row_bytes c.row_at-4.result) (search rules) lr eq
    c.row_at.ensures c.row_at-2.ensures c.row_at-3.ensures c.row_at-4.ensures c.plus-low.ensures c.plus-high.ensures c.plus.ensures
