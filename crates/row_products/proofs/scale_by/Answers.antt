-- `row_products::scale_by` meets its contract. The loop's invariant: what is done, before the products of what is left, is the products of all.
-- Assumes nothing.
use Rattle.std.proofs.Common.{◌∙◌, sym, arith, rules}
use Rattle.row_products.proofs.Turns.{product-turn, product-end}
use Rattle.row_products.proofs.scale_by.Goals as goal

pub loop-j-preserved : goal.loop-j-preserved
loop-j-preserved c = (
  product-turn c.loop-j.a c.args.b.now _ c.loop-j.j _ _ (omega arith) (omega arith) c.multiples_of-m.ensures.0 c.times.ensures c.loop-j.invariant.0,
  search rules,
)

pub returns : goal.returns
returns c = sym (product-end c.loop-j.a _ c.loop-j.j (omega arith)) ∙ c.loop-j.invariant.0
