-- `trial_lists::repeat_on` meets its contract. The loop's invariant: the first t runs are the boards counted, and the rest is as it was.
-- Assumes nothing.
use Rattle.std.proofs.Common.{◌≡◌, ◌++◌, ◌*◌, ℕ, List, drop, length}
use Rattle.lists.specs.Lists.{join}
use Rattle.trial_spec.specs.Trial.{counted}
use Rattle.trial_lists.proofs.repeat_on.Given as goal

-- each run
abbrev pub run : ℕ → ℕ → ℕ → ℕ → List ℕ
run n first d t = counted n first d

abbrev pub invariant-loop-t : goal.invariant-loop-t
invariant-loop-t l = record {
  counted : l.out ≡ join l.t (run l.n l.first l.d) ++ drop (l.t * l.d) l.initial.out;
  same : length l.out ≡ length l.initial.out;
}
