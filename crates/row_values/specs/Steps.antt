-- Sums of rows, and the bytes of a row in the order in which a board keeps them.
-- Assumes nothing.
use Rattle.std.specs.Prelude.{List, ℕ, ◌+◌, ◌*◌, ◌%◌, length, get_or}
use Rattle.lists.specs.Lists.{tabulate}
use Rattle.gf256.specs.Field.{mul}
use Rattle.polynomial.specs.Polynomial.{sum}

-- the first L bytes of the sum of rows of 32 bytes, each times its value
unfoldable pub row_sums : ℕ → List ℕ → List ℕ → List ℕ
row_sums L values rows = tabulate L (λ m. sum (length values) (λ t. mul (get_or values t 0) (get_or rows (t * 32 + m) 0)))

-- m bytes of a row from place i on, modulo n
unfoldable pub turned : ℕ → ℕ → ℕ → List ℕ → List ℕ
turned n i m row = tabulate m (λ t. get_or row ((i + t) % n) 0)
