-- `text_in::name_at` meets its contract. The loop's invariant: what is left of the name, from the place reached on, gives what the whole gives.
-- Assumes nothing.
use Rattle.std.proofs.Common.{◌≡◌, true, ℕ, ◌+◌, List, length, drop}
use Rattle.point_lines.specs.Lines.{read_name}
use Rattle.text_in.specs.declared.Told.{Told}
use Rattle.text_in.specs.Steps.{lost}
use Rattle.text_in.proofs.name_at.Given as goal

-- what is told of the whole name
abbrev pub told : List ℕ → ℕ → List ℕ → Told
told name at rest = record { ok = true; value = 0; next = at + length name }

abbrev pub reading : List ℕ → ℕ → List ℕ → ℕ → ℕ → Told
reading text at name i j = read_name (lost text) (drop j name) (drop i text) (told name at)

abbrev pub invariant-loop-b : goal.invariant-loop-b
invariant-loop-b l =
    (l.i ≡ l.at + l.b-index) × (reading l.text l.at l.name l.i l.b-index ≡ reading l.text l.at l.name l.at 0)
