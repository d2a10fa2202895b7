-- Tests: answers true or false about numbers and lists, as the refusals ask them.
-- Assumes nothing.
use Rattle.std.specs.Prelude.{Bool, true, false, not, List, [], ◌∷◌, ℕ, ltb, eqb}
use Rattle.std.proofs.Math.Option.{Option, some, none}

-- the one by a test that holds, the other by one that does not
abbrev pub pick {ℓ} : {A : Type ℓ} → Bool → A → A → A
pick true a b = a
pick false a b = b

-- each element of the list passes the test
abbrev pub every : {A : Type 0} → (A → Bool) → List A → Bool
every p [] = true
every p (x ∷ l) = pick (p x) (every p l) false

-- all of the tests hold
abbrev pub alls : List Bool → Bool
alls l = every (λ b. b) l

-- each number is below n
abbrev pub below : ℕ → List ℕ → Bool
below n l = every (λ x. ltb x n) l

-- the number stands in the list
abbrev pub among : List ℕ → ℕ → Bool
among [] x = false
among (y ∷ l) x = pick (eqb y x) true (among l x)

-- no number stands twice
abbrev pub different : List ℕ → Bool
different [] = true
different (x ∷ l) = pick (among l x) false (different l)

-- no number of the second list stands in the first
abbrev pub apart : List ℕ → List ℕ → Bool
apart l xs = every (λ x. not (among l x)) xs

-- the two lists are the same
abbrev pub same : List ℕ → List ℕ → Bool
same [] [] = true
same [] (y ∷ ys) = false
same (x ∷ xs) [] = false
same (x ∷ xs) (y ∷ ys) = pick (eqb x y) (same xs ys) false

-- there is one
abbrev pub given : {A : Type 0} → Option A → Bool
given none = false
given (some a) = true
