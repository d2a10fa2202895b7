-- The lines of a careful read before DISAGREE, in their order.
-- Assumes nothing.
use Rattle.std.specs.Prelude.{ℕ, ◌+◌, Bool, false, not, List, [], ◌∷◌, leb, eqb, length, get_or}
use Rattle.lists.specs.Tests.{alls, every, different}
use Rattle.sizes.specs.declared.Refusal.TheVariants.{Count, Repeat, Down}
use Rattle.sizes.specs.declared.Sizes.{Sizes}
use Rattle.sizes.specs.Refusals.{Line, ◌when◌}
use Rattle.board_spec.specs.Calls.{node_line, short_line}
use Rattle.store_spec.specs.Record.{Record}
use Rattle.store_spec.specs.Calls.{lent_line, empty_line, down_line}
use Rattle.beside_spec.specs.Running.{Running}
use Rattle.beside_spec.specs.Both.{both_line}

-- of the boards: k + 2 of at least so many, known, different and in service
abbrev pub careful_board_lines : Sizes → List Bool → List ℕ → List Line
careful_board_lines z marks boards =
    Count when not (alls (leb (z.k + 2) z.n ∷ eqb (length boards) (z.k + 2) ∷ []))
    ∷ node_line z boards
    ∷ Repeat when not (different boards)
    ∷ Down when not (every (λ i. get_or marks i false) boards)
    ∷ []

abbrev pub asked_lines : Record → Running → ℕ → List ℕ → List ℕ → List Line
asked_lines s p m boards output =
    both_line s p
    ∷ lent_line s m
    ∷ empty_line s
    ∷ Count when not (alls (leb (s.sizes.k + 2) s.sizes.n ∷ eqb (length boards) (s.sizes.k + 2) ∷ []))
    ∷ node_line s.sizes boards
    ∷ Repeat when not (different boards)
    ∷ down_line s boards
    ∷ short_line output s.length
    ∷ []
