-- The factors of helpers for fresh boards, a row of 32 bytes each.
-- Assumes nothing.
use Rattle.std.specs.Prelude.{List, ℕ, ◌+◌, ◌*◌, ◌/◌, ◌%◌, get_or}
use Rattle.lists.specs.Lists.{tabulate, fit}
use Rattle.lagrange_factors.specs.Steps.{factors_at}

-- column i of c rows, and 00 behind
unfoldable pub column_row : ℕ → ℕ → List ℕ → List ℕ
column_row c i rows = fit 32 (tabulate c (λ t. get_or rows (t * 32 + i) 0))

-- the factors of board j and the c − 1 boards after it, of n, for the point of board i
unfoldable pub pair_row : List ℕ → ℕ → ℕ → ℕ → ℕ → List ℕ
pair_row pts n c j i = fit 32 (factors_at pts (tabulate c (λ t. (j + t) % n)) i)

-- those of the p-th helper, where each fresh board has d
abbrev pub pair_row_at : List ℕ → ℕ → ℕ → ℕ → List ℕ → List ℕ → ℕ → List ℕ
pair_row_at pts n d c fresh helpers p = pair_row pts n c (get_or helpers p 0) (get_or fresh (p / d) 0)
