-- An outcome by its parts.
-- Assumes nothing.
use mathlib.Core.Path.{refl}
use Rattle.board_lines.specs.Laws.{OutcomeIs}

pub outcome-is : OutcomeIs
outcome-is a output = refl
