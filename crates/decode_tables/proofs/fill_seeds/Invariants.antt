-- `decode_tables::fill_seeds` meets its contract: what is filled in, before what was there.
-- Assumes nothing.
use Rattle.std.proofs.Common.{◌≡◌, ◌++◌, drop, get_or, eqb}
use lib.Dec.{ltb}
use Rattle.lists.specs.Tests.{pick}
use Rattle.lists.specs.Lists.{tabulate}
use Rattle.polynomial.specs.Polynomial.{power}
use Rattle.decode_tables.proofs.fill_seeds.Given as goal

abbrev pub invariant-loop-t : goal.invariant-loop-t
invariant-loop-t l = l.out ≡ tabulate l.t (λ t. pick (ltb l.s l.m) (pick (eqb t l.s) 1 0) (power (get_or l.xs t 0) l.s)) ++ drop l.t l.initial.out
