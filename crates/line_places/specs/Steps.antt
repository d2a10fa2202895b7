-- A line of a number at a place of a text: what is told of it.
-- Assumes nothing.
use Rattle.std.specs.Prelude.{List, ℕ, drop}
use Rattle.number_lines.specs.Lines.{line}
use Rattle.number_lines.specs.Steps.{capped}
use Rattle.text_in.specs.declared.Told.{Told}
use Rattle.text_in.specs.Steps.{lost, number_told}

-- one more than the greatest number of 32 bits
abbrev pub most : ℕ
most = 4294967296

unfoldable pub line_at : List ℕ → ℕ → List ℕ → Told
line_at text at name = line (lost text) name (drop at text) (λ v rest. number_told text (capped most v) rest)
