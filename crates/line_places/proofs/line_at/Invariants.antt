-- `line_places::line_at` meets its contract. The loop's invariant: from the place reached on, the line as far as it is read gives what the whole line gives.
-- Assumes nothing.
use Rattle.std.proofs.Common.{◌≡◌, ℕ, List, drop}
use Rattle.number_lines.specs.declared.Reader.{Reader}
use Rattle.number_lines.specs.Steps.{begin, reads}
use Rattle.text_in.specs.declared.Told.{Told}
use Rattle.text_in.specs.Steps.{lost, number_told}
use Rattle.line_places.specs.Steps.{most}
use Rattle.line_places.proofs.line_at.Given as goal

-- from a place on, by a reader
abbrev pub reading : List ℕ → List ℕ → Reader → ℕ → Told
reading text name line i = reads (lost text) name most line (drop i text) (number_told text)

abbrev pub invariant-loop-i : goal.invariant-loop-i
invariant-loop-i l = reading l.text l.name l.line l.i ≡ reading l.text l.name begin l.at
