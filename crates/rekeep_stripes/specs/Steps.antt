-- What the code makes of a stripe, and of the stripes of a board.
-- Assumes nothing.
use Rattle.std.specs.Prelude.{List, ℕ, ◌+◌, get_or}
use Rattle.lists.specs.Lists.{join, piece}
use Rattle.sizes.specs.declared.Sizes.{Sizes}
use Rattle.sizes.specs.Sizing.{α}
use Rattle.polynomial.specs.Polynomial.{eval}
use Rattle.mbcr.specs.Rebuild.{own_f, own_g}
use Rattle.mbcr.specs.AfreshLaws.{patched}
use Rattle.stripe_helper.specs.Steps.{pair_by}

-- a stripe, by the factors ff of f and gf of g; the moved board is the t-th after its own
unfoldable pub patch_by : Sizes → ℕ → List ℕ → List ℕ → List ℕ → List ℕ
patch_by z t ff gf w = let p = pair_by (z.d + z.r) ff gf w in patched z t (get_or p 0 0) (get_or p 1 0) w

module _ (z : Sizes) (xs : List ℕ) where
  -- S stripes of board i, for the new byte y of the t-th board after it
  unfoldable pub share_patched : ℕ → ℕ → ℕ → ℕ → List ℕ → List ℕ
  share_patched t y S i held = join S (λ s. let w = piece (α z) s held in patched z t (eval (own_f z xs i w) y) (eval (own_g z xs i w) y) w)
