-- `byte_factors::product_but` meets its contract: the products before and behind the point.
-- Assumes nothing.
use Rattle.byte_factors.proofs.Products.{product-but}
use Rattle.byte_factors.proofs.product_but.Goals as goal

pub returns : goal.returns
returns c = product-but c.args.xs.now c.args.t c.args.y _ _ _ _ c.product-a.ensures c.product-b.ensures c.multiples_of.ensures.0 c.times.ensures
