-- What a call answered and left in its output, as the definitions say it.
-- Assumes nothing.
use Rattle.std.specs.Prelude.{List, ℕ}
use Rattle.sizes.specs.Refusals.{said, Answer}
use Rattle.board_spec.specs.Calls.{BoardOutcome}

abbrev pub outcome : Answer → List ℕ → BoardOutcome
outcome a output = record { answer = said a; output = output }
