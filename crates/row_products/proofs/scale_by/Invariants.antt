-- `row_products::scale_by` meets its contract. The loop's invariant: what is done, before the products of what is left, is the products of all.
-- Assumes nothing.
use Rattle.std.proofs.Common.{◌≡◌, ◌++◌, length, take, drop}
use Rattle.row_products.specs.Steps.{products}
use Rattle.row_products.proofs.scale_by.Given as goal

abbrev pub invariant-loop-j : goal.invariant-loop-j
invariant-loop-j l =
    (take l.j l.a ++ products (drop l.j l.a) (drop l.j l.b) ≡ products l.initial.a l.b) × (length l.a ≡ length l.initial.a)
