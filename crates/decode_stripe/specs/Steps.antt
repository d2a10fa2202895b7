-- What a read is asked, the boards at which values are taken, its tables and its arrays for work, by name.
-- Assumes nothing.
use Rattle.std.specs.Prelude.{◌≡◌, true, List, ℕ, ◌+◌, ◌-◌, ◌*◌, length, take}
use Rattle.lists.specs.Tests.{below, different}
use Rattle.sizes.specs.declared.Sizes.{Sizes}
use Rattle.sizes.specs.Sizing.{legal}
use Rattle.mbcr.specs.Share.{DifferentPoints, points}
use Rattle.decode_laws.specs.Steps.{factor_rows, unit_rows, top_rows, seed_rows}
use Rattle.decode_rows.specs.Steps.{TabledRows}

-- k different boards, at different points
pub record Asked (z : Sizes) (xs boards : List ℕ) : Type 0 where
  pub sized : legal z ≡ true
  pub distinct : DifferentPoints z xs
  pub counted : length boards ≡ z.k
  pub known : below z.n boards ≡ true
  pub unlike : different boards ≡ true

-- d + r different boards, at which values are taken
pub record Targets (z : Sizes) (targets : List ℕ) : Type 0 where
  pub counted : length targets ≡ z.d + z.r
  pub known : below z.n targets ≡ true
  pub unlike : different targets ≡ true

-- what depends on sizes, points and boards alone: factors of f and of g, rows of coefficients, and tables of such rows
pub record Tables (z : Sizes) (xs boards targets ff gf vc tr et : List ℕ) : Type 0 where
  pub f-factors : ff ≡ factor_rows z xs (z.d + z.r) boards
  pub g-factors : gf ≡ factor_rows z xs z.d boards
  pub units-long : length vc ≡ (z.d + z.r) * 512
  pub units : TabledRows (z.d + z.r) (unit_rows (points xs targets)) vc
  pub tops : tr ≡ top_rows z.k (points xs (take z.d targets))
  pub seeds-long : length et ≡ z.d * 512
  pub seeds : TabledRows z.d (seed_rows z.d (points xs boards)) et

-- how long the arrays for work are
pub record Work (z : Sizes) (fs gs vf vg tp rows columns : List ℕ) : Type 0 where
  pub f-rows : length fs ≡ z.k * 32
  pub g-rows : length gs ≡ z.k * 32
  pub f-values : length vf ≡ z.k * (z.d + z.r)
  pub g-values : length vg ≡ 1024
  pub g-tops : length tp ≡ (z.d - z.k) * z.k
  pub all-rows : length rows ≡ z.d * 32
  pub all-columns : length columns ≡ (z.d + z.r) * 32
