-- Document 01, 'Field and sizes': which sizes are legal, and the lengths that follow from them.
-- Assumes nothing.
use Rattle.std.specs.Prelude.{Bool, [], ◌∷◌, ℕ, ◌+◌, ◌-◌, ◌*◌, ◌/◌, leb}
use Rattle.lists.specs.Tests.{alls}
use Rattle.sizes.specs.declared.Sizes.{Sizes}

-- "up to 32 shelf boards"
abbrev pub max_boards : ℕ
max_boards = 32

-- "4,096 stripes": the most that a file and a capacity may have
abbrev pub max_stripes : ℕ
max_stripes = 4096

-- "Legal: 1 ≤ k ≤ d, r ≥ 1, d + r ≤ n ≤ 32"
unfoldable pub legal : Sizes → Bool
legal z = alls (leb 1 z.k ∷ leb z.k z.d ∷ leb 1 z.r ∷ leb (z.d + z.r) z.n ∷ leb z.n max_boards ∷ [])

-- "A share has α = 2d + r − 1 bytes per stripe"
abbrev pub α : Sizes → ℕ
α z = 2 * z.d + z.r - 1

-- "a stripe carries B = k(2d + r − k) file bytes"
unfoldable pub B : Sizes → ℕ
B z = z.k * (2 * z.d + z.r - z.k)

-- "A file of L bytes has S stripes, the least number with S × B ≥ L": S of a length L
unfoldable pub stripes : Sizes → ℕ → ℕ
stripes z L = (L + (B z - 1)) / B z
