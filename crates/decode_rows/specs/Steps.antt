-- Rows and the tables of their multiples.
-- Assumes nothing.
use Rattle.std.specs.Prelude.{◌≡◌, List, ℕ, ◌<◌}
use Rattle.lists.specs.Lists.{piece}
use Rattle.row_sums.specs.Steps.{multiples}

-- the tables, 512 bytes each, have the multiples of the first m rows, 32 bytes each
abbrev pub TabledRows : ℕ → List ℕ → List ℕ → Type 0
TabledRows m rows tables = (s : ℕ) → s < m → piece 512 s tables ≡ multiples (piece 32 s rows)
