-- What a function that writes bytes at a place of a list does: the list after it, and the place behind the bytes; and the line of points.
-- Assumes nothing.
use Rattle.std.specs.Prelude.{◌≡◌, Bool, List, [], ◌∷◌, ℕ, ◌+◌, length}
use Rattle.lists.specs.Tests.{pick, same}
use Rattle.lists.specs.Lists.{put, tabulate, joined}
use Rattle.board_spec.specs.Text.{hex_pair, text_line}

pub record Wrote (before : List ℕ) (at : ℕ) (bytes after : List ℕ) (end : ℕ) : Type 0 where
  pub written : after ≡ put before at bytes
  pub ends : end ≡ at + length bytes

-- the points are 0, 1, 2 and so on, in order
abbrev pub in_order : List ℕ → Bool
in_order points = same points (tabulate (length points) (λ i. i))

-- the line of points that are not in order: `points_line`, of the points of n boards
abbrev pub points_said : List ℕ → List ℕ
points_said points = pick (in_order points) [] (text_line (0x70 ∷ 0x6F ∷ 0x69 ∷ 0x6E ∷ 0x74 ∷ 0x73 ∷ []) (joined hex_pair points))
