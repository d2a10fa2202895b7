-- A stripe of a finished share, by the rows of its board.
-- Assumes nothing.
use Rattle.std.specs.Prelude.{List, ◌++◌, ℕ, ◌*◌, ◌-◌, take, drop}
use Rattle.sizes.specs.declared.Sizes.{Sizes}
use Rattle.mbcr.specs.Rebuild.{received, exchanged}
use Rattle.row_values.specs.Steps.{row_sums}
use Rattle.stripe_finish.specs.Steps.{finished_by}

-- stripe s of S that board i writes, from the packets of its helpers and its partners: `rows` are those of its helpers, then those of all
unfoldable pub stripe_by : Sizes → ℕ → ℕ → List ℕ → ℕ → ℕ → List ℕ → List ℕ → List ℕ
stripe_by z i L rows S s packets exchanges =
    finished_by z.n i L (z.d - 1) (drop (z.d * 32) rows) (row_sums L (received z S 0 s packets) (take (z.d * 32) rows))
    (received z S 1 s packets ++ exchanged z S s exchanges)
