-- `prefix_pairs::points_on` meets its contract. The loop's invariant: from the place reached on, behind the j points read, the pairs that are left count on to
-- what all count.
-- Assumes nothing.
use Rattle.std.proofs.Common.{◌≡◌, ℕ, ◌+◌, ◌-◌, List, [], take, drop}
use Rattle.prefix_spec.specs.Prefix.{pairs_on, may_point}
use Rattle.prefix_pairs.proofs.points_on.Given as goal

abbrev pub invariant-loop-j : goal.invariant-loop-j
invariant-loop-j l =
    (go : List ℕ → ℕ) → l.i + pairs_on (may_point l.n) (l.n - l.j) (take l.j l.points) (drop l.i l.text) go ≡ l.at + pairs_on (may_point l.n) l.n [] (drop l.at l.text) go
