-- `horner::horner_row` meets its contract. The loop's invariant: what is done, before the sum of what is left, is the answer.
-- Assumes nothing.
use Rattle.std.proofs.Common.{◌∙◌, sym, arith}
use Rattle.std.proofs.Math.ListN.{length-set}
use Rattle.horner.proofs.Turns.{row-turn, row-end}
use Rattle.horner.proofs.horner_row.Goals as goal

pub loop-j-preserved : goal.loop-j-preserved
loop-j-preserved c = (
  row-turn c.args.x _ c.args.row.now c.loop-j.acc _ c.loop-j.j _ (omega arith) (omega arith) c.multiples_of-m.ensures.0 c.times.ensures c.loop-j.invariant.0,
  length-set c.loop-j.acc c.loop-j.j _ ∙ c.loop-j.invariant.1,
)

pub returns : goal.returns
returns c = sym (row-end c.args.x c.args.row.now c.loop-j.acc c.loop-j.j (omega arith) (omega arith)) ∙ c.loop-j.invariant.0
