-- `interpolation::slopes` meets its contract.
-- Assumes nothing.
use Rattle.std.proofs.Common.{◌≡◌, ◌++◌, length, take, drop}
use Rattle.polynomial.specs.Polynomial.{slopes}
use Rattle.interpolation.proofs.slopes.Given as goal

abbrev pub invariant-loop-j : goal.invariant-loop-j
invariant-loop-j l = (take l.j l.ws ++ slopes l.a l.v (drop l.j l.ys) (drop l.j l.ws) ≡ slopes l.a l.v l.ys l.initial.ws) × (length l.ws ≡ length l.initial.ws)
