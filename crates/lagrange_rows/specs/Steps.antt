-- Rows of 32 bytes, a byte for the point of each board.
-- Assumes nothing.
use Rattle.std.specs.Prelude.{List, ℕ, length, take}
use Rattle.lists.specs.Lists.{tabulate, join}
use Rattle.mbcr.specs.Share.{point, points}
use Rattle.lagrange.specs.Steps.{differences, weight}

-- the product of y - x over the first t points x, at the point y of each board
unfoldable pub before_row : List ℕ → List ℕ → ℕ → List ℕ
before_row pts xs t = tabulate 32 (λ m. differences (take t xs) (point pts m))

-- what the value at the point of the t-th of these boards adds at the point of each board
unfoldable pub lagrange_row : List ℕ → List ℕ → ℕ → List ℕ
lagrange_row pts boards t = tabulate 32 (λ m. weight (points pts boards) t (point pts m))

-- one after another
unfoldable pub lagrange_rows : List ℕ → List ℕ → List ℕ
lagrange_rows pts boards = join (length boards) (lagrange_row pts boards)
