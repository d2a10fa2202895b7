-- Lines that several calls share, in document 01's order.
-- Assumes nothing.
use Rattle.std.specs.Prelude.{ℕ, Bool, false, not, List, [], ◌∷◌, eqb, length, get_or}
use Rattle.lists.specs.Tests.{every, different}
use Rattle.sizes.specs.declared.Sizes.{Sizes}
use Rattle.sizes.specs.declared.Refusal.TheVariants.{Count, Repeat, Down}
use Rattle.sizes.specs.Refusals.{Line, ◌when◌}
use Rattle.board_spec.specs.Calls.{node_line}
use Rattle.store_spec.specs.Record.{Record}
use Rattle.store_spec.specs.Calls.{lent_line}
use Rattle.beside_spec.specs.Running.{Running}
use Rattle.beside_spec.specs.Both.{both_line}

abbrev pub area_lines : Record → Running → ℕ → List Line
area_lines s p m = both_line s p ∷ lent_line s m ∷ []

abbrev pub board_lines : Sizes → ℕ → List Bool → List ℕ → List Line
board_lines z count marks boards =
    Count when not (eqb (length boards) count)
    ∷ node_line z boards
    ∷ Repeat when not (different boards)
    ∷ Down when not (every (λ i. get_or marks i false) boards)
    ∷ []
