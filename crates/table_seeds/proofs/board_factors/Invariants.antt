-- `table_seeds::board_factors` meets its contract: the rows so far, before what was there.
-- Assumes nothing.
use Rattle.std.proofs.Common.{◌≡◌, ◌+◌, ◌*◌, ◌%◌, ◌++◌, drop}
use Rattle.lists.specs.Lists.{tabulate, join, fit}
use Rattle.decode_laws.specs.Steps.{cell}
use Rattle.table_seeds.proofs.board_factors.Given as goal

abbrev pub invariant-loop-o : goal.invariant-loop-o
invariant-loop-o l = l.out ≡ join l.o (λ o. fit 32 (tabulate l.c (λ t. cell l.rows t ((l.b + (l.c + o)) % l.n)))) ++ drop (l.o * 32) l.initial.out
