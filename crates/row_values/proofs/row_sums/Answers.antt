-- `row_values::row_sums` meets its contract: the sum of the rows so far.
-- Assumes nothing.
use Rattle.std.proofs.Common.{refl, arith}
use Rattle.row_values.proofs.Sums.{sums-start, sums-turn, sums-end}
use Rattle.row_values.proofs.row_sums.Goals as goal

pub loop-t-init : goal.loop-t-init
loop-t-init c = sums-start _ _ c.args.values.now c.args.rows.now _ c.clear.ensures refl

pub loop-t-preserved : goal.loop-t-preserved
loop-t-preserved c = sums-turn c.loop-t.t _ c.args.values.now c.args.rows.now c.loop-t.out _ (omega arith) (omega arith) c.loop-t.invariant c.add_scaled.ensures

pub returns : goal.returns
returns c = sums-end c.loop-t.t _ _ c.args.values.now c.args.rows.now c.loop-t.out (omega arith) refl c.loop-t.invariant
