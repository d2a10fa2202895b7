-- Laws of `All`, and of numbers that differ pairwise: from and to an index, and for parts of a list.
-- Assumes nothing.
use mathlib.Core.Logic.{◌≢◌}
use mathlib.Core.List.{List, [], ◌∷◌, ◌++◌}
use Prim.Native.Nat.{ℕ, zero, suc, ◌<◌}
use native.Mathlib.Omega.{arith}
use lib.ListN.{length, get_or, take, drop}
use Rattle.lists.specs.Lists.{All, Bytes}

module _ {A : Type 0} where
  pub all-imp : (P Q : A → Type 0) → ((x : A) → P x → Q x) → (xs : List A) → All P xs → All Q xs
  all-imp P Q f [] h = tt
  all-imp P Q f (x ∷ xs) h = (f x h.0, all-imp P Q f xs h.1)

  pub all-at : (P : A → Type 0) (d : A) (xs : List A) → All P xs → (i : ℕ) → i < length xs → P (get_or xs i d)
  all-at P d [] h i l = absurd (omega arith)
  all-at P d (x ∷ xs) h zero l = h.0
  all-at P d (x ∷ xs) h (suc i) l = all-at P d xs h.1 i (omega arith)

  -- the same past the end, where the default has the property too
  pub all-at_d : (P : A → Type 0) (d : A) (xs : List A) → All P xs → P d → (i : ℕ) → P (get_or xs i d)
  all-at_d P d [] h z i = z
  all-at_d P d (x ∷ xs) h z zero = h.0
  all-at_d P d (x ∷ xs) h z (suc i) = all-at_d P d xs h.1 z i

  pub all_of : (P : A → Type 0) (d : A) (xs : List A) → ((i : ℕ) → i < length xs → P (get_or xs i d)) → All P xs
  all_of P d [] f = tt
  all_of P d (x ∷ xs) f = (f zero (omega arith), all_of P d xs (λ i l. f (suc i) (omega arith)))

  pub append-all : (P : A → Type 0) (xs ys : List A) → All P xs → All P ys → All P (xs ++ ys)
  append-all P [] ys h k = k
  append-all P (x ∷ xs) ys h k = (h.0, append-all P xs ys h.1 k)

  pub all_left : (P : A → Type 0) (xs ys : List A) → All P (xs ++ ys) → All P xs
  all_left P [] ys h = tt
  all_left P (x ∷ xs) ys h = (h.0, all_left P xs ys h.1)

  pub all_right : (P : A → Type 0) (xs ys : List A) → All P (xs ++ ys) → All P ys
  all_right P [] ys h = h
  all_right P (x ∷ xs) ys h = all_right P xs ys h.1

  pub take-alls : (P : A → Type 0) (n : ℕ) (xs : List A) → All P xs → All P (take n xs)
  take-alls P zero xs h = tt
  take-alls P (suc n) [] h = tt
  take-alls P (suc n) (x ∷ xs) h = (h.0, take-alls P n xs h.1)

  pub drop-alls : (P : A → Type 0) (n : ℕ) (xs : List A) → All P xs → All P (drop n xs)
  drop-alls P zero xs h = h
  drop-alls P (suc n) [] h = tt
  drop-alls P (suc n) (x ∷ xs) h = drop-alls P n xs h.1

pub byte_at : (p : List ℕ) → Bytes p → (i : ℕ) → get_or p i 0 < 256
byte_at p h = all-at_d (λ a. a < 256) 0 p h (omega arith)

pub zeros-bytes : (m : ℕ) → Bytes (lib.ListN.replicate m 0)
zeros-bytes zero = tt
zeros-bytes (suc m) = (omega arith, zeros-bytes m)

-- ---- numbers that differ pairwise

-- no number stands twice
abbrev pub Distinct : List ℕ → Type 0
Distinct [] = Unit {0}
Distinct (a ∷ xs) = All (λ x. x ≢ a) xs × Distinct xs

pub distinct_of : (xs : List ℕ) → ((i j : ℕ) → i < j → j < length xs → get_or xs j 0 ≢ get_or xs i 0) → Distinct xs
distinct_of [] f = tt
distinct_of (x ∷ xs) f = (
  all_of (λ y. y ≢ x) 0 xs (λ j l. f zero (suc j) (omega arith) (omega arith)),
  distinct_of xs (λ i j h l. f (suc i) (suc j) (omega arith) (omega arith)),
)

pub distinct-at : (xs : List ℕ) → Distinct xs → (i j : ℕ) → i < j → j < length xs → get_or xs j 0 ≢ get_or xs i 0
distinct-at [] h i j a b = absurd (omega arith)
distinct-at (x ∷ xs) h i zero a b = absurd (omega arith)
distinct-at (x ∷ xs) h zero (suc j) a b = all-at (λ y. y ≢ x) 0 xs h.0 j (omega arith)
distinct-at (x ∷ xs) h (suc i) (suc j) a b = distinct-at xs h.1 i j (omega arith) (omega arith)

pub distinct-left : (xs ys : List ℕ) → Distinct (xs ++ ys) → Distinct xs
distinct-left [] ys h = tt
distinct-left (x ∷ xs) ys h = (all_left (λ y. y ≢ x) xs ys h.0, distinct-left xs ys h.1)
