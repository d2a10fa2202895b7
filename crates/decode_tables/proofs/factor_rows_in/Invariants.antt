-- `decode_tables::factor_rows_in` meets its contract: the boards so far, before what was there.
-- Assumes nothing.
use Rattle.std.proofs.Common.{◌≡◌, ◌*◌, ◌-◌, ◌++◌, drop, get_or}
use Rattle.lists.specs.Lists.{join}
use Rattle.decode_laws.specs.Steps.{factors_of}
use Rattle.decode_tables.proofs.factor_rows_in.Given as goal

abbrev pub invariant-loop-t : goal.invariant-loop-t
invariant-loop-t l = l.out ≡ join l.t (λ t. factors_of l.sizes l.points l.c (get_or l.boards t 0)) ++ drop (l.t * ((l.sizes.n - l.c) * 32)) l.initial.out
