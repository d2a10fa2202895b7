-- `stripe_finish::board_rows` meets its contract: the callees' contracts, put together.
-- Assumes nothing.
use Rattle.std.proofs.Common.{length-take, length-drop, arith}
use Rattle.stripe_finish.proofs.Finished.{all-below-32, rows_made}
use Rattle.stripe_finish.proofs.board_rows.Goals as goal

pub lagrange_rows-requires-2 : goal.lagrange_rows-requires-2
lagrange_rows-requires-2 c =
    let a = c.args in
    let p = c.requires in
    (p.0, p.1, rw c.all_boards.ensures (all-below-32 a.helpers.now a.partners.now a.i p.2 p.3 p.4), omega arith, simp (length-take, length-drop) (omega arith))

pub returns : goal.returns
returns c =
    let a = c.args in
    rows_made a.points.now a.helpers.now a.partners.now a.rows.now _ _ _ a.i c.all_boards.ensures (omega arith) c.lagrange_rows.ensures c.lagrange_rows-2.ensures
