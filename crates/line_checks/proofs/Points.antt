-- Whether points are taken, by the tests in their order.
-- Assumes nothing.
use Prim.Native.Nat.{ℕ, ◌-◌}
use mathlib.Core.Path.{◌≡◌, refl, sym, ap, ◌∙◌}
use mathlib.Core.Bool.{Bool, true, false}
use mathlib.Core.Logic.{◌≢◌}
use mathlib.Core.List.{List}
use native.Mathlib.Omega.{arith}
use lib.Dec.{eqb}
use lib.ListN.{length, take, drop}
use borrow.Author.Tests.{eq-eqb, ne_eqb}
use Rattle.lists.specs.Tests.{pick, every, different}
use Rattle.lists.specs.Lists.{Bytes}
use Rattle.lists.proofs.Boards.{all-below}
use Rattle.sizes.specs.declared.Sizes.{Sizes}
use Rattle.mbcr.specs.Share.{pointed}

-- one test at the end of a list of them
ends : (b : Bool) → b ≡ pick b true false
ends true = refl
ends false = refl

module _ (z : Sizes) (xs : List ℕ) where
  pub not-32 : length xs ≢ 32 → false ≡ pointed z xs
  unfolding pointed
  not-32 e = rw (ne_eqb (length xs) 32 e) refl

  -- the points of n boards, as code takes them from the first on
  firsts : different (take (z.n - 0) xs) ≡ different (take z.n xs)
  firsts = let e : z.n - 0 ≡ z.n = omega arith in ap (λ (m : ℕ). different (take m xs)) e

  module _ (long : length xs ≡ 32) (bytes : Bytes xs) where
    pub repeated : different (take (z.n - 0) xs) ≡ false → false ≡ pointed z xs
    unfolding pointed
    repeated e = rw (eq-eqb (length xs) 32 long, all-below 256 xs bytes, sym firsts ∙ e) refl

    pub by-rest : different (take (z.n - 0) xs) ≡ true → every (λ x. eqb x 0) (drop z.n xs) ≡ pointed z xs
    unfolding pointed
    by-rest e = rw (eq-eqb (length xs) 32 long, all-below 256 xs bytes, sym firsts ∙ e) (ends (every (λ x. eqb x 0) (drop z.n xs)))
