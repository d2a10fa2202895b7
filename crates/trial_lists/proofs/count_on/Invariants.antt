-- `trial_lists::count_on` meets its contract. The loop's invariant: the first i boards are those counted, and the rest is as it was.
-- Assumes nothing.
use Rattle.std.proofs.Common.{◌≡◌, ◌++◌, ◌+◌, ◌%◌, ℕ, drop, length}
use Rattle.lists.specs.Lists.{tabulate}
use Rattle.trial_lists.proofs.count_on.Given as goal

-- board i of those counted
abbrev pub board : ℕ → ℕ → ℕ → ℕ
board n first i = (first + i) % n

abbrev pub invariant-loop-i : goal.invariant-loop-i
invariant-loop-i l = record {
  counted : l.out ≡ tabulate l.i (board l.n l.first) ++ drop l.i l.initial.out;
  same : length l.out ≡ length l.initial.out;
}
