-- Laws of tests.
-- Assumes nothing.
use Prim.Native.Nat.{ℕ}
use mathlib.Core.Path.{◌≡◌, refl, ap₂}
use mathlib.Core.Bool.{Bool, true, false, not}
use mathlib.Core.List.{List, [], ◌∷◌}
use native.Mathlib.Omega.{arith}
use lib.Dec.{eqb}
use borrow.Author.Tests.{eqb-true, eq-eqb}
use Rattle.lists.specs.Tests.{pick, every, alls, same}
use Rattle.lists.specs.Lists.{All}

pub true-false : {b : Bool} → b ≡ true → b ≡ false → ⊥
true-false p q = let z : ◌≡◌ {A = ℕ} 0 1 = cc in omega arith

pub is_false : (b : Bool) → (b ≡ true → ⊥) → b ≡ false
is_false true h = absurd (h refl)
is_false false h = refl

pub not-no : (b : Bool) → not b ≡ false → b ≡ true
not-no true h = refl
not-no false h = absurd (true-false refl h)

pub both : (b c : Bool) → pick b c false ≡ true → (b ≡ true) × (c ≡ true)
both true c h = (refl, h)
both false c h = absurd (true-false h refl)

-- what passes a test passes each of its parts
pub every-all : {A : Type 0} (p : A → Bool) (l : List A) → every p l ≡ true → All (λ x. p x ≡ true) l
every-all p [] h = tt
every-all p (x ∷ l) h = let q = both (p x) (every p l) h in (q.0, every-all p l q.1)

pub all-every : {A : Type 0} (p : A → Bool) (l : List A) → All (λ x. p x ≡ true) l → every p l ≡ true
all-every p [] h = refl
all-every p (x ∷ l) h = rw h.0 (all-every p l h.1)

-- each of the tests holds
abbrev pub Hold : List Bool → Type 0
Hold l = All (λ b. b ≡ true) l

pub alls-hold : (l : List Bool) → alls l ≡ true → Hold l
alls-hold l h = every-all (λ b. b) l h

pub hold-alls : (l : List Bool) → Hold l → alls l ≡ true
hold-alls l h = all-every (λ b. b) l h

-- ---- the test of equality

pub same-eq : (xs ys : List ℕ) → same xs ys ≡ true → xs ≡ ys
same-eq [] [] e = refl
same-eq [] (y ∷ ys) e = cc
same-eq (x ∷ xs) [] e = cc
same-eq (x ∷ xs) (y ∷ ys) e =
    let q = both (eqb x y) (same xs ys) e in
    ap₂ {C = List ℕ} (λ x l. x ∷ l) (eqb-true x y q.0) (same-eq xs ys q.1)

pub same_refl : (xs : List ℕ) → same xs xs ≡ true
same_refl [] = refl
same_refl (x ∷ xs) = rw (eq-eqb x x refl) (same_refl xs)
