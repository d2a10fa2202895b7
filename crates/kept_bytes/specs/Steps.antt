-- Bytes taken in the order of a board's neighbours, "subscripts modulo n".
-- Assumes nothing.
use Rattle.std.specs.Prelude.{List, ◌++◌, ℕ, ◌+◌, ◌-◌, ◌%◌}
use Rattle.lists.specs.Lists.{tabulate}
use Rattle.sizes.specs.declared.Sizes.{Sizes}

-- what f has for the boards i, i + 1, .. , i + m − 1
abbrev pub around : ℕ → (ℕ → ℕ) → ℕ → ℕ → List ℕ
around n f i m = tabulate m (λ t. f ((i + t) % n))

-- f for the boards from i to i + d + r − 1, then g for those from i + 1 to i + d − 1
unfoldable pub kept_of : Sizes → (ℕ → ℕ) → (ℕ → ℕ) → ℕ → List ℕ
kept_of z f g i = around z.n f i (z.d + z.r) ++ around z.n g ((i + 1) % z.n) (z.d - 1)
