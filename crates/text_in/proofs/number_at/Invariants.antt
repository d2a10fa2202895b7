-- `text_in::number_at` meets its contract. The loop's invariant: from the place reached on, the line as far as it is read gives what the whole line gives.
-- Assumes nothing.
use Rattle.std.proofs.Common.{◌≡◌, ℕ, List, drop}
use Rattle.number_lines.specs.declared.Reader.{Reader}
use Rattle.number_lines.specs.Steps.{begin, reads}
use Rattle.text_in.specs.declared.Told.{Told}
use Rattle.text_in.specs.Steps.{most, lost, name_of, number_told}
use Rattle.text_in.proofs.number_at.Given as goal

-- from a place on, by a reader
abbrev pub reading : List ℕ → ℕ → Reader → ℕ → Told
reading text which line i = reads (lost text) (name_of which) most line (drop i text) (number_told text)

abbrev pub invariant-loop-i : goal.invariant-loop-i
invariant-loop-i l = reading l.text l.which l.line l.i ≡ reading l.text l.which begin l.at
