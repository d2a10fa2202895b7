-- `interpolation::fill_inverses` meets its contract: the inverses so far, before what was there.
-- Assumes nothing.
use Rattle.std.proofs.Common.{◌∙◌, arith}
use Rattle.std.proofs.Math.ListN.{length-set}
use Rattle.lists.proofs.Pieces.{fill-loop, fill_end, fill-all}
use Rattle.gf256.specs.Field.{inverse}
use Rattle.interpolation.proofs.fill_inverses.Goals as goal

pub loop-t-preserved : goal.loop-t-preserved
loop-t-preserved c = (
  fill-loop inverse c.args.table.now c.loop-t.table c.loop-t.t _ (omega arith) c.inverse.ensures c.loop-t.invariant.0,
  length-set c.loop-t.table c.loop-t.t _ ∙ c.loop-t.invariant.1,
)

pub returns : goal.returns
returns c =
    fill_end inverse c.args.table.now c.loop-t.table c.loop-t.t 256 (omega arith) c.loop-t.invariant.0 ∙ fill-all inverse c.args.table.now 256 (omega arith)
