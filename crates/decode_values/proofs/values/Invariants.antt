-- `decode_values::values` meets its contract: the boards so far, before what was there.
-- Assumes nothing.
use Rattle.std.proofs.Common.{◌≡◌, ◌-◌, ◌*◌, ◌++◌, drop, get_or}
use Rattle.lists.specs.Lists.{tabulate, join, piece}
use Rattle.decode_laws.specs.Steps.{offset, value_by}
use Rattle.decode_values.proofs.values.Given as goal

abbrev pub invariant-loop-t : goal.invariant-loop-t
invariant-loop-t l =
    l.out ≡ join l.t (λ t. tabulate l.q (λ i. value_by l.c (offset l.n (get_or l.boards t 0) (get_or l.targets i 0)) l.m (drop (t * ((l.n - l.c) * 32)) l.factors) (piece 32 t l.rows)))
    ++ drop (l.t * l.q) l.initial.out
