-- Request A.10, 'To the present points with the robot running': what a board keeps once another board's point is a new one, worked out from its own f
-- and g, over any bytes.
-- Assumes nothing.
use Rattle.std.specs.Prelude.{List, ℕ}
use Rattle.lists.specs.Lists.{join, piece}
use Rattle.sizes.specs.declared.Sizes.{Sizes}
use Rattle.sizes.specs.Sizing.{α}
use Rattle.polynomial.specs.Polynomial.{eval}
use Rattle.mbcr.specs.Share.{symbols}
use Rattle.mbcr.specs.Rebuild.{own_f, own_g}

module _ (z : Sizes) (xs : List ℕ) where
  -- "Every other board works out its own kept values afresh from f and g": board i kept the bytes w of a stripe at the points xs, and this it keeps at
  -- the points ys
  unfoldable pub kept_afresh : List ℕ → ℕ → List ℕ → List ℕ
  kept_afresh ys i w = symbols z ys i (eval (own_f z xs i w)) (eval (own_g z xs i w))

  -- the same of S stripes
  unfoldable pub share_afresh : List ℕ → ℕ → ℕ → List ℕ → List ℕ
  share_afresh ys S i held = join S (λ s. kept_afresh ys i (piece (α z) s held))
