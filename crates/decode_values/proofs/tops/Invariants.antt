-- `decode_values::tops` meets its contract: the rows so far, before what was there.
-- Assumes nothing.
use Rattle.std.proofs.Common.{◌≡◌, ◌+◌, ◌*◌, ◌++◌, drop, get_or}
use Rattle.lists.specs.Lists.{tabulate, join}
use Rattle.gf256.specs.Field.{mul}
use Rattle.polynomial.specs.Polynomial.{sum}
use Rattle.decode_laws.specs.Steps.{cell}
use Rattle.decode_values.proofs.tops.Given as goal

abbrev pub invariant-loop-i : goal.invariant-loop-i
invariant-loop-i l = l.out ≡ join l.i (λ i. tabulate l.k (λ t. sum l.m (λ s. mul (cell l.rows i s) (get_or l.va (t * l.d + s) 0)))) ++ drop (l.i * l.k) l.initial.out
