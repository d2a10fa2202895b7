-- `prefix_pairs::data_on` meets its contract. The loop's invariant: from the place reached on, the pairs that are left count on to what all count.
-- Assumes nothing.
use Rattle.std.proofs.Common.{◌≡◌, ℕ, ◌+◌, ◌-◌, List, [], drop}
use Rattle.prefix_spec.specs.Prefix.{pairs_on}
use Rattle.prefix_pairs.proofs.Pairs.{any}
use Rattle.prefix_pairs.proofs.data_on.Given as goal

abbrev pub invariant-loop : goal.invariant-loop
invariant-loop l =
    (go : List ℕ → ℕ) → l.i + pairs_on any (l.count - l.counter) [] (drop l.i l.text) go ≡ l.at + pairs_on any l.count [] (drop l.at l.text) go
