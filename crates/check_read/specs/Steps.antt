-- The lines of a read before DISAGREE, in document 01's order.
-- Assumes nothing.
use Rattle.std.specs.Prelude.{ℕ, not, List, [], ◌∷◌, eqb, length}
use Rattle.lists.specs.Tests.{different}
use Rattle.sizes.specs.declared.Refusal.TheVariants.{Count, Repeat}
use Rattle.sizes.specs.Refusals.{Line, ◌when◌}
use Rattle.board_spec.specs.Calls.{node_line, short_line}
use Rattle.store_spec.specs.Record.{Record}
use Rattle.store_spec.specs.Calls.{lent_line, empty_line, down_line}
use Rattle.beside_spec.specs.Running.{Running}
use Rattle.beside_spec.specs.Both.{both_line}

abbrev pub asked_lines : Record → Running → ℕ → List ℕ → List ℕ → List Line
asked_lines s p m boards output =
    both_line s p
    ∷ lent_line s m
    ∷ empty_line s
    ∷ Count when not (eqb (length boards) s.sizes.k)
    ∷ node_line s.sizes boards
    ∷ Repeat when not (different boards)
    ∷ down_line s boards
    ∷ short_line output s.length
    ∷ []
