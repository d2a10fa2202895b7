-- Shares that stand at given places of a list of bytes.
-- Assumes nothing.
use Rattle.std.specs.Prelude.{List, ℕ, ◌*◌, take, drop}
use Rattle.lists.specs.Lists.{joined}
use Rattle.sizes.specs.declared.Sizes.{Sizes}
use Rattle.sizes.specs.Sizing.{α}

-- the shares of S stripes that start at these places, one after another
unfoldable pub shares_at : Sizes → ℕ → List ℕ → List ℕ → List ℕ
shares_at z S starts bytes = joined (λ p. take (S * α z) (drop p bytes)) starts
