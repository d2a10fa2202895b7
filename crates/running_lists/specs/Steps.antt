-- What is asked of the arrays of a started repair's record where its lists are taken out of them.
-- Assumes nothing.
use Rattle.std.specs.Prelude.{◌≡◌, true, List, ℕ, ◌≤◌, length}
use Rattle.sizes.specs.declared.Sizes.{Sizes}
use Rattle.sizes.specs.Sizing.{legal}

-- no more fresh boards than r, and arrays as long as a record's
pub record Arrays (z : Sizes) (t : ℕ) (fresh helpers stand_ins : List ℕ) : Type 0 where
  pub is-legal : legal z ≡ true
  pub few : t ≤ z.r
  pub fresh-long : length fresh ≡ 32
  pub helpers-long : length helpers ≡ 256
  pub stand-ins-long : length stand_ins ≡ 256
