-- `interpolation::slopes` meets its contract.
-- Assumes nothing.
use Rattle.std.proofs.Common.{◌∙◌, arith}
use Rattle.std.proofs.Math.ListN.{length-set}
use Rattle.gf256.specs.Field.{inverse}
use Rattle.interpolation.proofs.Loops.{slopes-loop, table_at}
use Rattle.interpolation.proofs.slopes.Goals as goal

pub loop-j-preserved : goal.loop-j-preserved
loop-j-preserved c =
    let w = c.loop-j in (
      slopes-loop _ _ c.args.ys.now w.ws _ w.j _ _ _ _ (omega arith) (omega arith) c.add-d.ensures (table_at inverse 256 _ _ c.requires.0 (omega arith))
          c.add-u.ensures c.product.ensures w.invariant.0,
      length-set w.ws w.j _ ∙ w.invariant.1,
    )
