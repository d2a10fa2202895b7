-- `prefix_steps::name_on` meets its contract. The loop's invariant: from the place reached on, what is left of the name counts on to what the whole counts.
-- Assumes nothing.
use Rattle.std.proofs.Common.{◌≡◌, ℕ, ◌+◌, List, drop}
use Rattle.prefix_spec.specs.Prefix.{name_on}
use Rattle.prefix_steps.proofs.name_on.Given as goal

abbrev pub invariant-loop-b : goal.invariant-loop-b
invariant-loop-b l =
    (go : List ℕ → ℕ) → l.i + name_on (drop l.b-index l.name) (drop l.i l.text) go ≡ l.at + name_on l.name (drop l.at l.text) go
