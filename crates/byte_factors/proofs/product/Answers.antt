-- `byte_factors::product` meets its contract. The loop's invariant: what is done, times the product over the points left, is the product over all.
-- Assumes nothing.
use Rattle.std.proofs.Common.{arith}
use Rattle.gf256.specs.Field.{add}
use Rattle.gf256.proofs.Field.{mul-lt}
use Rattle.byte_factors.proofs.Products.{product-first, product-turn, product-end}
use Rattle.byte_factors.proofs.product.Goals as goal

pub loop-x-init : goal.loop-x-init
loop-x-init c = (product-first c.args.xs.now c.args.y, omega arith)

pub loop-x-preserved : goal.loop-x-preserved
unfolding add
loop-x-preserved c =
    let l = c.loop-x in (
      product-turn c.args.xs.now c.args.y l.x-index l.total _ _ (omega arith) c.multiples_of-f.ensures.0 c.times-total.ensures l.invariant.0,
      rw c.times-total.ensures (mul-lt _ _),
    )

pub returns : goal.returns
returns c = product-end c.args.xs.now c.args.y c.loop-x.x-index c.loop-x.total (omega arith) c.loop-x.invariant.1 c.loop-x.invariant.0
