-- What the code makes of the area, board after board.
-- Assumes nothing.
use Rattle.std.specs.Prelude.{List, ℕ, zero, suc, ◌*◌, eqb, take, drop}
use Rattle.lists.specs.Lists.{put}
use Rattle.lists.specs.Tests.{pick}
use Rattle.sizes.specs.declared.Sizes.{Sizes}
use Rattle.sizes.specs.Sizing.{α}
use Rattle.decode_laws.specs.Steps.{offset}
use Rattle.rekeep_stripes.specs.Steps.{share_patched}

module _ (z : Sizes) (xs : List ℕ) (part S board y : ℕ) where
  -- board i in its place, unless it is the one that moves
  unfoldable pub board_patched : ℕ → List ℕ → List ℕ
  board_patched i area =
      pick (eqb i board) area (put area (i * part) (share_patched z xs (offset z.n i board) y S i (take (S * α z) (drop (i * part) area))))

  -- the first m boards, one after another
  abbrev pub rekept : ℕ → List ℕ → List ℕ
  rekept zero area = area
  rekept (suc m) area = board_patched m (rekept m area)
