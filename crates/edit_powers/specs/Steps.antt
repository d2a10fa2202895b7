-- Rows of powers.
-- Assumes nothing.
use Rattle.std.specs.Prelude.{List, ℕ}
use Rattle.lists.specs.Lists.{join}
use Rattle.powers.specs.Steps.{power_row}

-- the powers 0 to 31 of each point, a row for each power
unfoldable pub powers_of : List ℕ → List ℕ
powers_of xs = join 32 (power_row xs)
