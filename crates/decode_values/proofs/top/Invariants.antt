-- `decode_values::top` meets its contract: what is filled in, before what was there.
-- Assumes nothing.
use Rattle.std.proofs.Common.{◌≡◌, ◌+◌, ◌*◌, ◌++◌, drop, get_or}
use Rattle.lists.specs.Lists.{tabulate}
use Rattle.gf256.specs.Field.{mul}
use Rattle.polynomial.specs.Polynomial.{sum}
use Rattle.decode_values.proofs.top.Given as goal

abbrev pub invariant-loop-t : goal.invariant-loop-t
invariant-loop-t l = l.out ≡ tabulate l.t (λ t. sum l.m (λ s. mul (get_or l.row s 0) (get_or l.va (t * l.d + s) 0))) ++ drop l.t l.initial.out
