-- Lent points as an array: 32 points as they are, and otherwise 32 times 00.
-- Assumes nothing.
use Prim.Native.Nat.{ℕ}
use mathlib.Core.Path.{◌≡◌, sym, ap, ◌∙◌}
use mathlib.Core.List.{List}
use native.Mathlib.Omega.{arith}
use lib.ListN.{length, take, drop, replicate}
use lib.Seq.{take_all}
use borrow.Author.Tests.{eq-eqb, ne_eqb}
use Rattle.lists.specs.Tests.{pick}
use Rattle.point_array.specs.Steps.{array_of}

pub array-is : (xs : List ℕ) (l : List ℕ) → length xs ≡ 32 → l ≡ take 32 (drop 0 xs) → l ≡ array_of xs
array-is xs l e h = h ∙ take_all 32 xs (omega arith) ∙ sym (ap (λ b. pick b xs (replicate 32 0)) (eq-eqb (length xs) 32 e))

pub array-not : (xs : List ℕ) → (length xs ≡ 32 → ⊥) → replicate 32 0 ≡ array_of xs
array-not xs h = sym (ap (λ b. pick b xs (replicate 32 0)) (ne_eqb (length xs) 32 h))
