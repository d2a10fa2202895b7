-- `row_dots::scale_by` meets its contract: the bytes so far are multiplied, and the rest is as it was.
-- Assumes nothing.
use Rattle.std.proofs.Common.{◌∙◌, get_or, arith}
use Rattle.std.proofs.Math.ListN.{length-set}
use Rattle.gf256.specs.Field.{mul}
use Rattle.row_dots.proofs.Rows.{change}
use Rattle.row_dots.proofs.scale_by.Goals as goal

pub loop-j-preserved : goal.loop-j-preserved
loop-j-preserved c = (
  change (λ j x. mul x (get_or c.args.b.now j 0)) c.args.a.now c.loop-j.a c.loop-j.j _ (omega arith) (cc c.multiples_of.ensures.0) c.loop-j.invariant.0,
  length-set c.loop-j.a c.loop-j.j _ ∙ c.loop-j.invariant.1,
)
