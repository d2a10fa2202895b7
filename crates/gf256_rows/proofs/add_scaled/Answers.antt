-- `gf256_rows::add_scaled` meets its contract. The loop's invariant: the j symbols that are done, then `add_scaled` of what is left, are the answer.
-- Assumes nothing.
use Rattle.std.proofs.Common.{◌∙◌, sym, arith}
use Rattle.std.proofs.Math.ListN.{length-set}
use Rattle.gf256.specs.Field.{add}
use Rattle.gf256_rows.proofs.Rows.{row-turn, row-end}
use Rattle.gf256_rows.proofs.add_scaled.Goals as goal

pub loop-j-preserved : goal.loop-j-preserved
unfolding add
loop-j-preserved c = (
  length-set c.loop-j.acc c.loop-j.j _ ∙ c.loop-j.invariant.0,
  row-turn c.args.c c.args.row.now c.loop-j.acc c.loop-j.j _ (omega arith) (omega arith) (cc c.multiples_of-m.ensures.0) ∙ c.loop-j.invariant.1,
)

pub returns : goal.returns
returns c = sym (row-end c.args.c c.args.row.now c.loop-j.acc c.loop-j.j (λ h. omega arith)) ∙ c.loop-j.invariant.1
