-- `interpolation::step` meets its contract.
-- Assumes nothing.
use Rattle.std.proofs.Common.{◌≡◌, ◌-◌, ◌++◌, length, take, drop}
use Rattle.polynomial.specs.Polynomial.{stepped}
use Rattle.interpolation.proofs.step.Given as goal

abbrev pub invariant-loop-j : goal.invariant-loop-j
invariant-loop-j l = (take (l.j - 1) l.q ++ stepped l.a (drop (l.j - 1) l.q) ≡ stepped l.a l.initial.q) × (length l.q ≡ length l.initial.q)
