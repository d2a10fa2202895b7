-- The lines of a move that are its own: REPEAT and DOWN.
-- Assumes nothing.
use Rattle.std.specs.Prelude.{ℕ, Bool, false, not, List, [], ◌∷◌, ◌++◌, take, get_or}
use Rattle.lists.specs.Tests.{every, alls, among, different}
use Rattle.lists.specs.Lists.{tabulate}
use Rattle.sizes.specs.declared.Refusal.TheVariants.{Repeat, Down}
use Rattle.sizes.specs.Refusals.{Line, ◌when◌}

-- a board twice, or a point that one of the first n boards has
abbrev pub new_line : ℕ → List ℕ → ℕ → ℕ → List ℕ → List ℕ → Line
new_line n points board point helpers partners =
    Repeat when not (alls (different (board ∷ (helpers ++ partners)) ∷ not (among (take n points) point) ∷ []))

-- one of the first n boards out of service
abbrev pub up_line : ℕ → List Bool → Line
up_line n marks = Down when not (every (λ i. get_or marks i false) (tabulate n (λ i. i)))
