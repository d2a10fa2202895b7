-- The tables of rows' multiples, one after another.
-- Assumes nothing.
use Rattle.std.specs.Prelude.{List, ℕ}
use Rattle.lists.specs.Lists.{join, piece}
use Rattle.row_sums.specs.Steps.{multiples}

-- of the first m rows, 32 bytes each: 512 bytes for each
abbrev pub tables_of : ℕ → List ℕ → List ℕ
tables_of m rows = join m (λ s. multiples (piece 32 s rows))
