-- `prefix_points::some_low` meets its contract. The loop's invariant: none of the digits tried may stand, and all bytes but the last are as they were.
-- Assumes nothing.
use Rattle.std.proofs.Common.{◌≡◌, ℕ, ◌+◌, ◌*◌, ◌-◌, ◌≤◌, Bool, List, [], ◌∷◌, ◌++◌, length, take}
use Rattle.prefix_spec.specs.Prefix.{some, may_point}
use Rattle.prefix_points.proofs.some_low.Given as goal

abbrev pub may : List ℕ → ℕ → ℕ → ℕ → Bool
may points₀ high left low = may_point (length points₀ + left) left (take (length points₀ - 1) points₀ ++ ((16 * high + low) ∷ []))

abbrev pub invariant-loop-low : goal.invariant-loop-low
invariant-loop-low l =
    (some 16 (may l.fn.points l.high l.left) ≡ some l.low (may l.fn.points l.high l.left))
    × (take (length l.fn.points - 1) l.points ≡ take (length l.fn.points - 1) l.fn.points) × (l.low ≤ 16)
