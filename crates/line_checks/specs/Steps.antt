-- What a check of one line answers: the line's refusal where it holds. And the two lines that every board-level call begins with, with what it
-- says that neither holds.
-- Assumes nothing.
use Rattle.std.specs.Prelude.{ℕ, ◌*◌, ◌≤◌, ◌≡◌, true, List, [], ◌∷◌, Ok, Err}
use Rattle.lists.specs.Tests.{pick}
use Rattle.sizes.specs.declared.Sizes.{Sizes}
use Rattle.sizes.specs.Sizing.{max_stripes, legal, B}
use Rattle.sizes.specs.Refusals.{Line, Check}
use Rattle.board_spec.specs.Calls.{size_line, long_line}

abbrev pub asked : Line → Check
asked l = pick l.applies (Err l.refusal) (Ok tt)

abbrev pub stated_lines : Sizes → List ℕ → ℕ → List Line
stated_lines z xs L = size_line z xs ∷ long_line z L ∷ []

pub record Stated (z : Sizes) (L : ℕ) : Type 0 where
  pub is-legal : legal z ≡ true
  pub not-long : L ≤ max_stripes * B z
