-- `byte_factors::product` meets its contract. The loop's invariant: what is done, times the product over the points left, is the product over all.
-- Assumes nothing.
use Rattle.std.proofs.Common.{◌≡◌, ◌<◌, drop}
use Rattle.gf256.specs.Field.{mul}
use Rattle.lagrange.specs.Steps.{differences}
use Rattle.byte_factors.proofs.product.Given as goal

abbrev pub invariant-loop-x : goal.invariant-loop-x
invariant-loop-x l = (mul l.total (differences (drop l.x-index l.xs) l.y) ≡ differences l.xs l.y) × (l.total < 256)
