-- `repair_factors::put_rows` meets its contract: the rows so far, before what was there.
-- Assumes nothing.
use Rattle.std.proofs.Common.{◌≡◌, ◌*◌, ◌/◌, eqb, get_or, drop, ◌++◌}
use Rattle.lists.specs.Tests.{pick}
use Rattle.lists.specs.Lists.{join, piece}
use Rattle.repair_factors.specs.Steps.{column_row}
use Rattle.repair_factors.proofs.put_rows.Given as goal

abbrev pub invariant-loop-p : goal.invariant-loop-p
invariant-loop-p l =
    l.out ≡ join l.p (λ p. pick (eqb (get_or l.helpers p 0) l.h) (column_row l.c (get_or l.fresh (p / l.d) 0) l.rows) (piece 32 p l.initial.out)) ++ drop (l.p * 32) l.initial.out
