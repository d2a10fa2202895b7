-- `edit_rows::add_row` meets its contract: the bytes so far are sums, and the rest is as it was.
-- Assumes nothing.
use Rattle.std.proofs.Common.{get_or, ◌∙◌, arith}
use Rattle.gf256.specs.Field.{add}
use Rattle.row_dots.proofs.Rows.{change, changed}
use Rattle.edit_rows.proofs.Rows.{plus-bytes}
use Rattle.edit_rows.proofs.add_row.Goals as goal

pub loop-j-preserved : goal.loop-j-preserved
loop-j-preserved c =
    change (λ j y. add y (get_or c.args.row.now j 0)) c.args.out.now c.loop-j.out c.loop-j.j _ (omega arith) c.add.ensures c.loop-j.invariant

pub returns : goal.returns
returns c =
    changed _ c.args.out.now c.loop-j.out c.loop-j.j (omega arith) (omega arith) c.loop-j.invariant
    ∙ plus-bytes c.args.out.now c.args.row.now c.requires
