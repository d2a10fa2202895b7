-- `interpolation::eval` meets its contract.
use mathlib.Core.Path.{◌≡◌}
use Rattle.std.proofs.Common.{◌≡◌, drop}
use Rattle.polynomial.specs.Polynomial.{eval}
use Rattle.interpolation.proofs.eval.Given as goal

abbrev pub invariant-loop-i : goal.invariant-loop-i
invariant-loop-i l = l.acc ≡ eval (drop l.i l.p) l.x
