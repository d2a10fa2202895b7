-- `repair_factors::put_row` meets its contract: by whether the boards are the same.
-- Assumes nothing.
use Rattle.repair_factors.proofs.Pairs.{row-taken}
use Rattle.repair_factors.proofs.put_row.Goals as goal

pub returns-then-j-h : goal.returns-then-j-h
returns-then-j-h c =
    let a = c.args in
    row-taken a.j a.h a.c a.i a.rows.now a.out.now c.column.new.out c.if-j-h.true c.requires.3 c.column.ensures
