-- A pair of a line of points, as a function tells it.
-- Assumes nothing.
use Rattle.std.specs.Prelude.{◌≡◌, true, List, ℕ, drop}
use Rattle.prefix_spec.specs.Prefix.{pair_on}
use Rattle.prefix_steps.specs.declared.Went.{Went}
use Rattle.prefix_steps.specs.Steps.{Goes}
use Rattle.prefix_points.specs.Steps.{with_last, may_last}

-- how far a pair goes that may stand last of these points, with so many pairs left; where it goes through, its byte is put there
abbrev pub PairGoes : List ℕ → ℕ → List ℕ → ℕ → List ℕ → Went → Type 0
PairGoes text at points₀ left points w = Goes text at (pair_on (may_last points₀ left) (drop at text)) w × (w.ok ≡ true → points ≡ with_last points₀ w.value)
