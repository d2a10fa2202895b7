-- The factors by which values at the points of boards are multiplied, for their sum to be the value at the point of another.
-- Assumes nothing.
use Rattle.std.specs.Prelude.{List, ℕ, length, get_or}
use Rattle.lists.specs.Lists.{tabulate}
use Rattle.gf256.specs.Field.{mul}
use Rattle.polynomial.specs.Polynomial.{sum}
use Rattle.mbcr.specs.Share.{point, points}
use Rattle.lagrange.specs.Steps.{weight}

-- the factors of boards for the byte y
unfoldable pub factors_for : List ℕ → List ℕ → ℕ → List ℕ
factors_for pts boards y = tabulate (length boards) (λ t. weight (points pts boards) t y)

-- the factors of boards for the point of board i
unfoldable pub factors_at : List ℕ → List ℕ → ℕ → List ℕ
factors_at pts boards i = tabulate (length boards) (λ t. weight (points pts boards) t (point pts i))

-- the sum of values times factors
abbrev pub dot_of : List ℕ → List ℕ → ℕ
dot_of fs vs = sum (length fs) (λ j. mul (get_or fs j 0) (get_or vs j 0))
