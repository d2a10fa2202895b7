-- `row_dots::scale_by_difference` meets its contract: the bytes so far are multiplied, and the rest is as it was.
-- Assumes nothing.
use Rattle.std.proofs.Common.{◌∙◌, get_or, arith}
use Rattle.std.proofs.Math.ListN.{length-set}
use Rattle.gf256.specs.Field.{add, mul}
use Rattle.row_dots.proofs.Rows.{change}
use Rattle.row_dots.proofs.scale_by_difference.Goals as goal

pub loop-j-preserved : goal.loop-j-preserved
unfolding add
loop-j-preserved c = (
  change (λ j y. mul (add (get_or c.args.ys.now j 0) c.args.x) y) c.args.a.now c.loop-j.a c.loop-j.j _ (omega arith) (cc c.multiples_of.ensures.0) c.loop-j.invariant.0,
  length-set c.loop-j.a c.loop-j.j _ ∙ c.loop-j.invariant.1,
)
