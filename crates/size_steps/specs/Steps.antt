-- The list of combinations by steps: the place behind each, and what a walk meets.
-- Assumes nothing.
use Rattle.std.specs.Prelude.{◌≡◌, true, List, [], ◌∷◌, ℕ, zero, suc, ◌+◌, leb, ltb, eqb, Option, Some, None}
use Rattle.lists.specs.Tests.{pick, alls}
use Rattle.sizes.specs.declared.Sizes.{Sizes}
use Rattle.sizes.specs.Sizing.{legal}

-- a place in the list: at a combination, or behind the last
abbrev pub Place : Type 0
Place = Option Sizes

-- the first combination of n up to the limit N
abbrev pub from_n : ℕ → ℕ → Place
from_n N n = pick (leb n N) (Some (record { n = n; k = 1; d = 1; r = 1 })) None

-- the first of n and k; where there is none, that of the next n
abbrev pub from_k : ℕ → ℕ → ℕ → Place
from_k N n k = pick (ltb k n) (Some (record { n = n; k = k; d = k; r = 1 })) (from_n N (n + 1))

-- the first of n, k and d; where there is none, that of the next k
unfoldable pub from_d : ℕ → ℕ → ℕ → ℕ → Place
from_d N n k d = pick (ltb d n) (Some (record { n = n; k = k; d = d; r = 1 })) (from_k N n (k + 1))

-- the place behind a combination
unfoldable pub next_of : ℕ → Sizes → Place
next_of N z = pick (ltb (z.d + z.r) z.n) (Some (record { n = z.n; k = z.k; d = z.d; r = z.r + 1 })) (from_d N z.n z.k (z.d + 1))

-- what a walk of m steps meets, and the place behind it
abbrev pub met : ℕ → ℕ → Place → List Sizes
met N zero p = []
met N (suc m) (Some z) = z ∷ met N m (next_of N z)
met N (suc m) None = []

abbrev pub after : ℕ → ℕ → Place → Place
after N zero p = p
after N (suc m) (Some z) = after N m (next_of N z)
after N (suc m) None = None

-- a place at a legal combination, or behind the last
abbrev pub LegalPlace : Place → Type 0
LegalPlace (Some z) = legal z ≡ true
LegalPlace None = Unit {0}

-- what a number and how many bytes stand behind its line give
abbrev pub whole_limit : ℕ → ℕ → ℕ
whole_limit v behind = pick (alls (leb 2 v ∷ leb v 32 ∷ eqb behind 0 ∷ [])) v 0
