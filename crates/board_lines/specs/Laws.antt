-- What a call answered and left in its output, by its parts. proofs/Laws.antt has `outcome-is`.
-- Assumes nothing.
use Rattle.std.specs.Prelude.{◌≡◌, List, ℕ}
use Rattle.sizes.specs.Refusals.{said, Answer}
use Rattle.board_lines.specs.Outcomes.{outcome}

abbrev pub OutcomeIs : Type 0
OutcomeIs = (a : Answer) (output : List ℕ) → outcome a output ≡ record { answer = said a; output = output }
