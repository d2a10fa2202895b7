-- The values of a stripe's polynomial at all points, as rows of 32 bytes.
-- Assumes nothing.
use Rattle.std.specs.Prelude.{List, [], ℕ, get_or}
use Rattle.lists.specs.Lists.{join}
use Rattle.sizes.specs.declared.Sizes.{Sizes}
use Rattle.polynomial.specs.Polynomial.{evals}
use Rattle.mbcr.specs.Share.{grid}

module _ (z : Sizes) (points : List ℕ) (u : List ℕ) where
  -- row i has the values of the coefficient of X^i, a polynomial in Y, at all points
  unfoldable pub row_values : List ℕ
  row_values = join z.d (λ i. evals (get_or (grid z u) i []) points)
