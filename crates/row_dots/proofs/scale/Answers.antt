-- `row_dots::scale` meets its contract: the bytes so far are multiplied, and the rest is as it was.
-- Assumes nothing.
use Rattle.std.proofs.Common.{◌∙◌, arith}
use Rattle.std.proofs.Math.ListN.{length-set}
use Rattle.gf256.specs.Field.{mul}
use Rattle.row_dots.proofs.Rows.{change}
use Rattle.row_dots.proofs.scale.Goals as goal

pub loop-byte-preserved : goal.loop-byte-preserved
loop-byte-preserved c = (
  change (λ j x. mul c.args.c x) c.args.a.now c.loop-byte.byte-items c.loop-byte.byte-index _ (omega arith) (cc c.multiples_of-m.ensures.0) c.loop-byte.invariant.0,
  length-set c.loop-byte.byte-items c.loop-byte.byte-index _ ∙ c.loop-byte.invariant.1,
)
