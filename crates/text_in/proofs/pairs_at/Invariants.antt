-- `text_in::pairs_at` meets its contract. The loop's invariant: the pairs that are left, from the place reached on, give what all of them give.
-- Assumes nothing.
use Rattle.std.proofs.Common.{◌≡◌, true, ℕ, ◌+◌, ◌*◌, ◌-◌, List, drop}
use Rattle.point_lines.specs.Lines.{read_pairs}
use Rattle.text_in.specs.declared.Told.{Told}
use Rattle.text_in.specs.Steps.{lost}
use Rattle.text_in.proofs.pairs_at.Given as goal

-- what is told of all the pairs
abbrev pub told : ℕ → ℕ → Told
told at count = record { ok = true; value = at; next = at + 2 * count + 1 }

abbrev pub reading : List ℕ → ℕ → ℕ → ℕ → ℕ → Told
reading text at count i left = read_pairs (lost text) left (drop i text) (λ xs rest. told at count)

abbrev pub invariant-loop : goal.invariant-loop
invariant-loop l =
    (l.i ≡ l.at + 2 * l.counter) × (reading l.text l.at l.count l.i (l.count - l.counter) ≡ reading l.text l.at l.count l.at l.count)
