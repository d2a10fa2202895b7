-- The place behind a combination, case by case; a place behind a legal one is legal.
-- Assumes nothing.
use mathlib.Core.Path.{◌≡◌}
use Prim.Native.Nat.{ℕ, ◌+◌, ◌<◌, ◌≤◌}
use native.Mathlib.Omega.{arith}
use borrow.Author.Tests.{lt-ltb, le-ltb, le-leb, lt-leb}
use Rattle.sizes.specs.declared.Sizes.{Sizes}
use Rattle.std.specs.Prelude.{Some, None}
use Rattle.size_steps.specs.Steps.{from_d, next_of}

module _ (N n k : ℕ) where
  pub some-helpers : (d : ℕ) → d < n → from_d N n k d ≡ Some (record { n = n; k = k; d = d; r = 1 })
  unfolding from_d
  some-helpers d h = rw (lt-ltb d n h)

  pub next-read : (d : ℕ) → n ≤ d → k + 1 < n → from_d N n k d ≡ Some (record { n = n; k = k + 1; d = k + 1; r = 1 })
  unfolding from_d
  next-read d h g = rw (le-ltb d n h, lt-ltb (k + 1) n g)

  pub next-boards : (d : ℕ) → n ≤ d → n ≤ k + 1 → n < N → from_d N n k d ≡ Some (record { n = n + 1; k = 1; d = 1; r = 1 })
  unfolding from_d
  next-boards d h g m = rw (le-ltb d n h, le-ltb (k + 1) n g, le-leb (n + 1) N (omega arith))

  pub at-end : (d : ℕ) → n ≤ d → n ≤ k + 1 → N ≤ n → from_d N n k d ≡ None
  unfolding from_d
  at-end d h g m = rw (le-ltb d n h, le-ltb (k + 1) n g, lt-leb (n + 1) N (omega arith))

module _ (N : ℕ) (z : Sizes) where
  pub one_more : z.d + z.r < z.n → next_of N z ≡ Some (record { n = z.n; k = z.k; d = z.d; r = z.r + 1 })
  unfolding next_of
  one_more h = rw (lt-ltb (z.d + z.r) z.n h)

  pub no_more : z.n ≤ z.d + z.r → next_of N z ≡ from_d N z.n z.k (z.d + 1)
  unfolding next_of
  no_more h = rw (le-ltb (z.d + z.r) z.n h)
