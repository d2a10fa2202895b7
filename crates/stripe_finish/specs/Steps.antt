-- A finished stripe by rows.
-- Assumes nothing.
use Rattle.std.specs.Prelude.{List, [], ◌∷◌, ◌++◌, ℕ, ◌+◌, ◌%◌, length, get_or}
use Rattle.lagrange_rows.specs.Steps.{lagrange_rows}
use Rattle.row_values.specs.Steps.{row_sums, turned}

-- what board i writes, L bytes of a row at a time: f from the bytes `rest` and its own value of g; then e values of g from the next board on
unfoldable pub finished_by : ℕ → ℕ → ℕ → ℕ → List ℕ → List ℕ → List ℕ → List ℕ
finished_by n i L e rows g rest = turned n i (length rest + 1) (row_sums L (rest ++ (get_or g i 0 ∷ [])) rows) ++ turned n ((i + 1) % n) e g

-- Lagrange's rows of the helpers of board i, and of its helpers, its partners and itself
unfoldable pub board_rows : List ℕ → List ℕ → List ℕ → ℕ → List ℕ
board_rows pts helpers partners i = lagrange_rows pts helpers ++ lagrange_rows pts (helpers ++ partners ++ (i ∷ []))
