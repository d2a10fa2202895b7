-- `prefix_lines::digits_on` meets its contract. The loop's invariant: from the place reached on, the number so far counts on to what the whole counts.
-- Assumes nothing.
use Rattle.std.proofs.Common.{◌≡◌, ℕ, ◌+◌, ◌-◌, ◌≤◌, List, length, drop}
use Rattle.prefix_spec.specs.Prefix.{digits_on}
use Rattle.prefix_lines.proofs.digits_on.Given as goal

abbrev pub invariant-loop-i : goal.invariant-loop-i
invariant-loop-i l =
    ((go : ℕ → List ℕ → ℕ) → l.i + digits_on l.lo l.hi l.v (drop l.i l.text) go ≡ l.at + digits_on l.lo l.hi l.first (drop l.at l.text) go) × (l.v ≤ l.hi)
    × (l.i ≤ l.at + (length l.text - l.at))
