-- The lines of a move behind BUSY, in their order.
-- Assumes nothing.
use Rattle.std.specs.Prelude.{ℕ, ◌-◌, Bool, List, [], ◌∷◌, ◌++◌, eqb, length}
use Rattle.sizes.specs.declared.Sizes.{Sizes}
use Rattle.sizes.specs.Refusals.{Line}
use Rattle.board_spec.specs.Calls.{count_line, node_line}
use Rattle.move_tests.specs.Steps.{new_line, up_line}

abbrev pub named_lines : Sizes → List ℕ → List Bool → ℕ → ℕ → List ℕ → List ℕ → List Line
named_lines z points marks board point helpers partners =
    count_line (eqb (length helpers) z.d ∷ eqb (length partners) (z.r - 1) ∷ [])
    ∷ node_line z (board ∷ (helpers ++ partners))
    ∷ new_line z.n points board point helpers partners
    ∷ up_line z.n marks
    ∷ []
