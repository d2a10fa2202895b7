-- `byte_factors::factor` meets its contract: the product at y by that at the point itself.
-- Assumes nothing.
use Rattle.lagrange.specs.Steps.{others}
use Rattle.byte_factors.proofs.Products.{product-byte, factor-is}
use Rattle.byte_factors.proofs.factor.Goals as goal

pub returns : goal.returns
returns c =
    let a = c.args in
    factor-is a.xs.now a.inverses.now a.t a.y _ _ _ _ c.requires.0 (product-byte (others a.xs.now a.t) _ _ c.product_but-own.ensures) c.product_but-own.ensures
    c.product_but-here.ensures c.multiples_of.ensures.0 c.times.ensures
