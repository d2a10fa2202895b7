-- `decode_values::board_values` meets its contract: what is filled in, before what was there.
-- Assumes nothing.
use Rattle.std.proofs.Common.{◌≡◌, ◌++◌, drop, get_or}
use Rattle.lists.specs.Lists.{tabulate}
use Rattle.decode_laws.specs.Steps.{offset, value_by}
use Rattle.decode_values.proofs.board_values.Given as goal

abbrev pub invariant-loop-i : goal.invariant-loop-i
invariant-loop-i l = l.out ≡ tabulate l.i (λ i. value_by l.c (offset l.n l.b (get_or l.targets i 0)) l.m l.factors l.row) ++ drop l.i l.initial.out
