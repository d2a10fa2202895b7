-- The sizes of a call of the archive, which takes them as four numbers.
-- Assumes nothing.
use Rattle.std.specs.Prelude.{ℕ}
use Rattle.sizes.specs.declared.Sizes.{Sizes}

abbrev pub sizes_of : ℕ → ℕ → ℕ → ℕ → Sizes
sizes_of n k d r = record { n = n; k = k; d = d; r = r }
