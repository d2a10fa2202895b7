-- What a choice by a test is, by the test.
-- Assumes nothing.
use mathlib.Core.Path.{◌≡◌}
use mathlib.Core.Bool.{Bool, true, false}
use Prim.Native.Nat.{ℕ, ◌≤◌, ◌<◌}
use lib.Dec.{ltb, eqb}
use borrow.Author.Tests.{lt-ltb, le-ltb, eq-eqb, ne_eqb}
use Rattle.lists.specs.Tests.{pick}

module _ {A : Type 0} where
  pub yes : (t : Bool) (a b : A) → t ≡ true → pick t a b ≡ a
  yes t a b e = rw e

  pub no : (t : Bool) (a b : A) → t ≡ false → pick t a b ≡ b
  no t a b e = rw e

  pub if-eq : (x y : ℕ) (a b : A) → x ≡ y → pick (eqb x y) a b ≡ a
  if-eq x y a b e = yes (eqb x y) a b (eq-eqb x y e)

  pub if-ne : (x y : ℕ) (a b : A) → (x ≡ y → ⊥) → pick (eqb x y) a b ≡ b
  if-ne x y a b e = no (eqb x y) a b (ne_eqb x y e)

  pub if-lt : (x y : ℕ) (a b : A) → x < y → pick (ltb x y) a b ≡ a
  if-lt x y a b e = yes (ltb x y) a b (lt-ltb x y e)

  pub if-le : (x y : ℕ) (a b : A) → y ≤ x → pick (ltb x y) a b ≡ b
  if-le x y a b e = no (ltb x y) a b (le-ltb x y e)
