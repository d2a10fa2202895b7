-- `row_dots::dot` meets its contract: the sum of the products so far.
-- Assumes nothing.
use Rattle.std.proofs.Common.{◌≡◌, get_or}
use Rattle.gf256.specs.Field.{mul}
use Rattle.polynomial.specs.Polynomial.{sum}
use Rattle.row_dots.proofs.dot.Given as goal

abbrev pub invariant-loop-j : goal.invariant-loop-j
invariant-loop-j l = l.total ≡ sum l.j (λ j. mul (get_or l.a j 0) (get_or l.b j 0))
