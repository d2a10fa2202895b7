-- The last of some points, while pairs are read.
-- Assumes nothing.
use Rattle.std.specs.Prelude.{◌≡◌, Bool, List, [], ◌∷◌, ◌++◌, ℕ, ◌+◌, ◌-◌, length, take}
use Rattle.prefix_spec.specs.Prefix.{may_point}

-- these bytes with x for the last of them
abbrev pub with_last : List ℕ → ℕ → List ℕ
with_last points x = take (length points - 1) points ++ (x ∷ [])

-- whether x may stand there, with so many pairs left
abbrev pub may_last : List ℕ → ℕ → ℕ → Bool
may_last points left x = may_point (length points + left) left (with_last points x)

-- all bytes but the last are as they were
abbrev pub Kept : List ℕ → List ℕ → Type 0
Kept points₀ points = take (length points₀ - 1) points ≡ take (length points₀ - 1) points₀
