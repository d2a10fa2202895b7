-- The powers of points, a row for each exponent.
-- Assumes nothing.
use Rattle.std.specs.Prelude.{List, map, ℕ}
use Rattle.lists.specs.Lists.{tabulate}
use Rattle.polynomial.specs.Polynomial.{power}

-- the j-th power of each point
abbrev pub power_row : List ℕ → ℕ → List ℕ
power_row points j = map (λ x. power x j) points

-- the rows of the powers 0 to w − 1
abbrev pub power_rows : List ℕ → ℕ → List (List ℕ)
power_rows points w = tabulate w (power_row points)
