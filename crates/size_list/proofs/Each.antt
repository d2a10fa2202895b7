-- Lists put together of what a function gives for some numbers in turn: what holds of each element, which elements they have, and that they rise.
-- Assumes nothing.
use mathlib.Core.Path.{◌≡◌, sym, subst}
use mathlib.Core.Logic.{◌⊎◌, inl, inr, ⊎_elim}
use mathlib.Core.List.{List, [], ◌∷◌, ◌++◌}
use Prim.Native.Nat.{ℕ, zero, suc, ◌+◌, ◌<◌, ◌≤◌}
use native.Mathlib.Nat.{eq-or-lt_of_le}
use native.Mathlib.Omega.{arith}
use lib.ListN.{length, get_or}
use Rattle.lists.specs.Lists.{All}
use Rattle.lists.proofs.Alls.{all-imp, all-at, append-all}
use Rattle.size_list.specs.Combinations.{each}

-- an element of a list
abbrev pub In : {A : Type 0} → A → List A → Type 0
In z [] = ⊥
In z (x ∷ l) = (x ≡ z) ⊎ In z l

-- each element before each later one
abbrev pub Rising : {A : Type 0} → (A → A → Type 0) → List A → Type 0
Rising R [] = Unit {0}
Rising R (x ∷ l) = All (R x) l × Rising R l

module _ {A : Type 0} where
  pub all-each : (P : A → Type 0) (a m : ℕ) (f : ℕ → List A) → ((x : ℕ) → a ≤ x → x < a + m → All P (f x)) → All P (each a m f)
  all-each P a zero f h = tt
  all-each P a (suc m) f h =
      append-all P (f a) (each (suc a) m f) (h a (omega arith) (omega arith)) (all-each P (suc a) m f (λ x l u. h x (omega arith) (omega arith)))

  in_left : (z : A) (xs ys : List A) → In z xs → In z (xs ++ ys)
  in_left z [] ys h = absurd h
  in_left z (x ∷ xs) ys (inl e) = inl e
  in_left z (x ∷ xs) ys (inr h) = inr (in_left z xs ys h)

  in_right : (z : A) (xs ys : List A) → In z ys → In z (xs ++ ys)
  in_right z [] ys h = h
  in_right z (x ∷ xs) ys h = inr (in_right z xs ys h)

  pub in-each : (z : A) (a m : ℕ) (f : ℕ → List A) (x : ℕ) → a ≤ x → x < a + m → In z (f x) → In z (each a m f)
  in-each z a zero f x l u h = absurd (omega arith)
  in-each z a (suc m) f x l u h =
      ⊎_elim (λ e. in_left z (f a) (each (suc a) m f) (subst (λ (y : ℕ). In z (f y)) (sym e) h))
      (λ v. in_right z (f a) (each (suc a) m f) (in-each z (suc a) m f x (omega arith) (omega arith) h)) (eq-or-lt_of_le l)

  rising-append : (R : A → A → Type 0) (xs ys : List A) → Rising R xs → Rising R ys → All (λ x. All (R x) ys) xs → Rising R (xs ++ ys)
  rising-append R [] ys h g k = g
  rising-append R (x ∷ xs) ys h g k = (append-all (R x) xs ys h.0 k.0, rising-append R xs ys h.1 g k.1)

  pub rising-each : (R : A → A → Type 0) (K : ℕ → A → Type 0) → ((x y : ℕ) (u v : A) → x < y → K x u → K y v → R u v)
      → (a m : ℕ) (f : ℕ → List A) → ((x : ℕ) → a ≤ x → x < a + m → All (K x) (f x)) → ((x : ℕ) → a ≤ x → x < a + m → Rising R (f x))
      → Rising R (each a m f)
  rising-each R K apart a zero f k h = tt
  rising-each R K apart a (suc m) f k h =
      rising-append R (f a) (each (suc a) m f) (h a (omega arith) (omega arith))
      (rising-each R K apart (suc a) m f (λ x l u. k x (omega arith) (omega arith)) (λ x l u. h x (omega arith) (omega arith)))
      (all-imp (K a) (λ u. All (R u) (each (suc a) m f))
      (λ u ku. all-each (R u) (suc a) m f (λ y l v. all-imp (K y) (R u) (λ w kw. apart a y u w (omega arith) ku kw) (f y) (k y (omega arith) (omega arith))))
      (f a) (k a (omega arith) (omega arith)))

  -- by places
  pub rising-there : (R : A → A → Type 0) (l : List A) → Rising R l → (i j : ℕ) → i < j → j < length l → (other : A) → R (get_or l i other) (get_or l j other)
  rising-there R [] h i j u v other = absurd (omega arith)
  rising-there R (x ∷ l) h i zero u v other = absurd (omega arith)
  rising-there R (x ∷ l) h zero (suc j) u v other = all-at (R x) other l h.0 j (omega arith)
  rising-there R (x ∷ l) h (suc i) (suc j) u v other = rising-there R l h.1 i j (omega arith) (omega arith) other
