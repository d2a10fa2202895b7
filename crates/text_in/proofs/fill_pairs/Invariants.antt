-- `text_in::fill_pairs` meets its contract. The loop's invariant: the first bytes are those of the pairs, the others as they were.
-- Assumes nothing.
use Rattle.std.proofs.Common.{◌≡◌, ◌+◌, ◌*◌, ◌++◌, drop}
use Rattle.lists.specs.Lists.{tabulate}
use Rattle.text_in.specs.Steps.{pair_at}
use Rattle.text_in.proofs.fill_pairs.Given as goal

abbrev pub invariant-loop-j : goal.invariant-loop-j
invariant-loop-j l = l.out ≡ tabulate l.j (λ j. pair_at l.text (l.at + 2 * j)) ++ drop l.j l.fn.out
