-- The levels of the list of combinations: all of n, k and d, of n and k, of n.
-- Assumes nothing.
use mathlib.Core.List.{List, [], ◌∷◌}
use Prim.Native.Nat.{ℕ, ◌-◌}
use Rattle.sizes.specs.declared.Sizes.{Sizes}
use Rattle.size_list.specs.Combinations.{each}

abbrev pub one : ℕ → ℕ → ℕ → ℕ → List Sizes
one n k d r = record { n = n; k = k; d = d; r = r } ∷ []

abbrev pub of_d : ℕ → ℕ → ℕ → List Sizes
of_d n k d = each 1 (n - d) (one n k d)

abbrev pub of_k : ℕ → ℕ → List Sizes
of_k n k = each k (n - k) (of_d n k)

abbrev pub of_n : ℕ → List Sizes
of_n n = each 1 (n - 1) (of_k n)
