-- `edit_rows::change` meets its contract: the bytes so far are old against new, and the rest is as it was.
-- Assumes nothing.
use Rattle.std.proofs.Common.{◌+◌, arith}
use Rattle.row_dots.proofs.Rows.{change, changed}
use Rattle.edit_rows.specs.Steps.{changed_at}
use Rattle.edit_rows.proofs.change.Goals as goal

pub loop-q-preserved : goal.loop-q-preserved
loop-q-preserved c =
    let a = c.args in
    change (λ q y. changed_at a.offset a.bytes.now (a.from + q) y) a.old.now c.loop-q.old c.loop-q.q _ (omega arith) c.changed.ensures c.loop-q.invariant

pub returns : goal.returns
returns c = changed _ c.args.old.now c.loop-q.old c.loop-q.q (omega arith) (omega arith) c.loop-q.invariant
