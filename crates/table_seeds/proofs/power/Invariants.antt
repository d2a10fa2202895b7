-- `table_seeds::power` meets its contract: the power so far.
-- Assumes nothing.
use Rattle.std.proofs.Common.{◌≡◌}
use Rattle.polynomial.specs.Polynomial.{power}
use Rattle.table_seeds.proofs.power.Given as goal

abbrev pub invariant-loop : goal.invariant-loop
invariant-loop l = l.acc ≡ power l.x l.counter
