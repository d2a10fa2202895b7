-- A stripe's grid in rows of 32 bytes; and by what a stripe of a file changes.
-- Assumes nothing.
use Rattle.std.specs.Prelude.{List, [], ℕ, ◌+◌, ◌*◌, get_or}
use Rattle.lists.specs.Lists.{tabulate, join, fit}
use Rattle.sizes.specs.declared.Sizes.{Sizes}
use Rattle.sizes.specs.Sizing.{B}
use Rattle.mbcr.specs.Share.{grid}
use Rattle.stripes_cut.specs.Steps.{stripe_at}
use Rattle.edit_rows.specs.Steps.{changed_at}

-- each row of the grid, and 00 behind
abbrev pub laid_rows : Sizes → List ℕ → List ℕ
laid_rows z u = join z.d (λ i. fit 32 (get_or (grid z u) i []))

-- stripe s of the file that boards hold at these places, old against new, where bytes are put from an offset on
unfoldable pub changed_stripe : Sizes → List ℕ → List ℕ → List ℕ → List ℕ → ℕ → List ℕ → ℕ → List ℕ
changed_stripe z xs boards starts area offset bytes s =
    tabulate (B z) (λ q. changed_at offset bytes (s * B z + q) (get_or (stripe_at z xs boards starts area s) q 0))
