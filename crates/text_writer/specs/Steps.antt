-- What a share's text is worked out from: legal sizes, a point for each board, and numbers small enough to add; and room for it.
-- Assumes nothing.
use Rattle.std.specs.Prelude.{ℕ, ◌*◌, ◌≤◌, ◌<◌, ◌≡◌, true, List, length}
use Rattle.sizes.specs.declared.Sizes.{Sizes}
use Rattle.sizes.specs.Sizing.{legal}
use Rattle.board_spec.specs.Text.{share_text}

-- of a file of L bytes, of board `node`, and of a share of so many bytes
pub record Writes (z : Sizes) (xs : List ℕ) (L node held : ℕ) : Type 0 where
  pub is-legal : legal z ≡ true
  pub has-points : z.n ≤ length xs
  pub low-node : node < 32
  pub low-length : L ≤ 4096 * 992
  pub low_held : held ≤ 4096 * 62

-- of the share itself, into `out`
pub record Fits (z : Sizes) (xs : List ℕ) (L node : ℕ) (share out : List ℕ) : Type 0 where
  pub has-points : z.n ≤ length xs
  pub has_room : length (share_text z xs L node share) ≤ length out
