-- Laws of the lists of a careful read: those that pass a test, a list that leaves one out, the first file that there is.
-- Assumes nothing.
use Prim.Native.Nat.{ℕ, zero, suc, ◌+◌, ◌≤◌, ◌<◌}
use mathlib.Core.Path.{◌≡◌, refl, sym, ◌∙◌, ap, subst}
use mathlib.Core.Bool.{Bool, true, false, not}
use mathlib.Core.List.{List, [], ◌∷◌, ◌++◌}
use mathlib.Core.Logic.{◌≢◌}
use mathlib.Core.Option.{Option, some, none}
use native.Mathlib.Omega.{arith}
use lib.Dec.{eqb}
use lib.ListN.{length, get_or}
use borrow.Author.Tests.{eqb-true, eqb-false, eq-eqb}
use Rattle.lists.specs.Tests.{pick, among, different, given}
use Rattle.lists.specs.Lists.{All, without}
use Rattle.lists.proofs.Boards.{among-head, among-tail, not-among-cons, different-cons, not-among, length_without, all_without, among-without}
use Rattle.lists.proofs.Boards.{distinct, distinct-different, distinct_without}
use Rattle.lists.proofs.Tests.{true-false}
use Rattle.store_spec.specs.Careful.{those, leaving, first_file}

-- ---- those that pass a test

pub those-count : (p : ℕ → Bool) (l : List ℕ) → length (those p l) + length (those (λ x. not (p x)) l) ≡ length l
those-count p [] = refl
those-count p (x ∷ l) = go (p x) (those-count p l)
  where
    go : (t : Bool) → length (those p l) + length (those (λ x. not (p x)) l) ≡ length l
        → length (pick t (x ∷ []) [] ++ those p l) + length (pick (not t) (x ∷ []) [] ++ those (λ x. not (p x)) l) ≡ suc (length l)
    go true e = omega arith
    go false e = omega arith

pub those-among : (p : ℕ → Bool) (l : List ℕ) (i : ℕ) → among (those p l) i ≡ true → (among l i ≡ true) × (p i ≡ true)
those-among p [] i e = absurd (true-false e refl)
those-among p (x ∷ l) i e = go (p x) refl e (those-among p l i)
  where
    go : (t : Bool) → p x ≡ t → among (pick t (x ∷ []) [] ++ those p l) i ≡ true → (among (those p l) i ≡ true → (among l i ≡ true) × (p i ≡ true))
        → (among (x ∷ l) i ≡ true) × (p i ≡ true)
    go true q k ih = here (eqb x i) refl k
      where
        here : (u : Bool) → eqb x i ≡ u → pick u true (among (those p l) i) ≡ true → (among (x ∷ l) i ≡ true) × (p i ≡ true)
        here true v w =
            let y : x ≡ i = eqb-true x i v in
            (subst (λ (z : ℕ). among (x ∷ l) z ≡ true) y (among-head x l), subst (λ (z : ℕ). p z ≡ true) y q)
        here false v w = let r = ih w in (among-tail x i l r.0, r.1)
    go false q k ih = let r = ih k in (among-tail x i l r.0, r.1)

pub among-those : (p : ℕ → Bool) (l : List ℕ) (i : ℕ) → among l i ≡ true → p i ≡ true → among (those p l) i ≡ true
among-those p [] i e h = absurd (true-false e refl)
among-those p (x ∷ l) i e h = go (eqb x i) refl e (λ k. among-those p l i k h)
  where
    skip : (t : Bool) → among (those p l) i ≡ true → among (pick t (x ∷ []) [] ++ those p l) i ≡ true
    skip true k = among-tail x i (those p l) k
    skip false k = k

    go : (u : Bool) → eqb x i ≡ u → pick u true (among l i) ≡ true → (among l i ≡ true → among (those p l) i ≡ true) → among (those p (x ∷ l)) i ≡ true
    go true v w ih =
        let y : x ≡ i = eqb-true x i v in
        let q : p x ≡ true = subst (λ (z : ℕ). p z ≡ true) (sym y) h in
        rw q (subst (λ (z : ℕ). among (x ∷ those p l) z ≡ true) y (among-head x (those p l)))
    go false v w ih = skip (p x) (ih w)

-- none passes
pub those-none : (p : ℕ → Bool) (l : List ℕ) → All (λ x. p x ≡ false) l → those p l ≡ []
those-none p [] h = refl
those-none p (x ∷ l) h = rw h.0 (those-none p l h.1)

-- one alone passes
pub those-one : (p : ℕ → Bool) (l : List ℕ) (i : ℕ) → different l ≡ true → among l i ≡ true → p i ≡ true → All (λ j. j ≢ i → p j ≡ false) l → those p l ≡ i ∷ []
those-one p [] i d e h a = absurd (true-false e refl)
those-one p (x ∷ l) i d e h a = go (eqb x i) refl e (λ k. those-one p l i (different-cons x l d).1 k h a.1)
  where
    go : (u : Bool) → eqb x i ≡ u → pick u true (among l i) ≡ true → (among l i ≡ true → those p l ≡ i ∷ []) → those p (x ∷ l) ≡ i ∷ []
    go true v w ih =
        let y : x ≡ i = eqb-true x i v in
        let q : p x ≡ true = subst (λ (z : ℕ). p z ≡ true) (sym y) h in
        let n : among l i ≡ false = subst (λ (z : ℕ). among l z ≡ false) y (different-cons x l d).0 in
        let rest : those p l ≡ [] = those-none p l (both-all l a.1 (not-among l i n)) in
        rw (q, rest) (ap (λ (z : ℕ). z ∷ []) y)
      where
        both-all : (l : List ℕ) → All (λ j. j ≢ i → p j ≡ false) l → All (λ j. j ≢ i) l → All (λ j. p j ≡ false) l
        both-all [] a b = tt
        both-all (j ∷ l) a b = (a.0 b.0, both-all l a.1 b.1)
    go false v w ih =
        let q : p x ≡ false = a.0 (eqb-false x i v) in
        rw q (ih w)

-- which do not pass: none of the list where that list is empty, no other than i where it has i alone
pub none-odd : (p : ℕ → Bool) (l : List ℕ) → those (λ x. not (p x)) l ≡ [] → All (λ x. p x ≡ true) l
none-odd p [] e = tt
none-odd p (x ∷ l) e = go (p x) refl e (none-odd p l)
  where
    go : (t : Bool) → p x ≡ t → pick (not t) (x ∷ []) [] ++ those (λ x. not (p x)) l ≡ []
        → (those (λ x. not (p x)) l ≡ [] → All (λ x. p x ≡ true) l) → (p x ≡ true) × All (λ x. p x ≡ true) l
    go true q k ih = (q, ih k)
    go false q k ih = absurd (omega (arith, ap length k))

pub others-hold : (p : ℕ → Bool) (l : List ℕ) (i : ℕ) → those (λ x. not (p x)) l ≡ i ∷ [] → All (λ j. j ≢ i → p j ≡ true) l
others-hold p l i e = each l (λ j k. subst (λ (o : List ℕ). among o j ≡ true) e k)
  where
    each : (m : List ℕ) → ((j : ℕ) → among (those (λ x. not (p x)) m) j ≡ true → among (i ∷ []) j ≡ true) → All (λ j. j ≢ i → p j ≡ true) m
    each [] h = tt
    each (x ∷ m) h = (at (p x) refl, each m (λ j k. h j (later (p x) j k)))
      where
        later : (t : Bool) (j : ℕ) → among (those (λ x. not (p x)) m) j ≡ true → among (pick (not t) (x ∷ []) [] ++ those (λ x. not (p x)) m) j ≡ true
        later true j k = k
        later false j k = among-tail x j (those (λ x. not (p x)) m) k

        at : (t : Bool) → p x ≡ t → x ≢ i → p x ≡ true
        at true q n = q
        at false q n =
            let k = h x (rw q (among-head x (those (λ x. not (p x)) m))) in
            absurd (n (sym (eqb-true i x (only (eqb i x) k))))
          where
            only : (u : Bool) → pick u true false ≡ true → u ≡ true
            only true v = refl
            only false v = v

-- ---- a list that leaves one out

pub leaving-all : (P : ℕ → Type 0) (t : ℕ) (l : List ℕ) → All P l → All P (leaving t l)
leaving-all P t [] h = tt
leaving-all P zero (x ∷ l) h = h.1
leaving-all P (suc t) (x ∷ l) h = (h.0, leaving-all P t l h.1)

pub leaving-length : (t : ℕ) (l : List ℕ) → t < length l → suc (length (leaving t l)) ≡ length l
leaving-length t [] h = absurd (omega arith)
leaving-length zero (x ∷ l) h = refl
leaving-length (suc t) (x ∷ l) h = ap suc (leaving-length t l (omega arith))

leaving-none : (t : ℕ) (l : List ℕ) (i : ℕ) → among l i ≡ false → among (leaving t l) i ≡ false
leaving-none t [] i h = refl
leaving-none zero (x ∷ l) i h = (not-among-cons x i l h).1
leaving-none (suc t) (x ∷ l) i h = go (eqb x i) h (leaving-none t l i (not-among-cons x i l h).1)
  where
    go : (u : Bool) → pick u true (among l i) ≡ false → among (leaving t l) i ≡ false → pick u true (among (leaving t l) i) ≡ false
    go true v w = v
    go false v w = w

pub leaving-different : (t : ℕ) (l : List ℕ) → different l ≡ true → different (leaving t l) ≡ true
leaving-different t [] d = refl
leaving-different zero (x ∷ l) d = (different-cons x l d).1
leaving-different (suc t) (x ∷ l) d =
    let k = different-cons x l d in
    rw (leaving-none t l x k.0) (leaving-different t l k.1)

-- where all but one have a property, some place can be left out so that all have it
pub leave-odd : (P : ℕ → Type 0) (a : ℕ) (l : List ℕ) → different l ≡ true → All (λ j. j ≢ a → P j) l → 0 < length l
    → (t : ℕ) × (t < length l) × All P (leaving t l)
leave-odd P a [] d h k = absurd (omega arith)
leave-odd P a (x ∷ l) d h k = go (eqb x a) refl (λ m. leave-odd P a l (different-cons x l d).1 h.1 m)
  where
    given-all : (m : List ℕ) → All (λ j. j ≢ a → P j) m → All (λ j. j ≢ a) m → All P m
    given-all [] u v = tt
    given-all (j ∷ m) u v = (u.0 v.0, given-all m u.1 v.1)

    further : (m : List ℕ) → m ≡ l → P x → (0 < length l → (t : ℕ) × (t < length l) × All P (leaving t l)) → (t : ℕ) × (t < suc (length l)) × All P (leaving t (x ∷ l))
    further [] e px ih = (0, omega arith, subst (All P) e tt)
    further (y ∷ m) e px ih =
        let r = ih (omega (arith, ap length e)) in
        (suc r.0, omega (arith, r.1), (px, r.2))

    go : (u : Bool) → eqb x a ≡ u → (0 < length l → (t : ℕ) × (t < length l) × All P (leaving t l)) → (t : ℕ) × (t < suc (length l)) × All P (leaving t (x ∷ l))
    go true v ih =
        let n : among l a ≡ false = subst (λ (z : ℕ). among l z ≡ false) (eqb-true x a v) (different-cons x l d).0 in
        (0, omega arith, given-all l h.1 (not-among l a n))
    go false v ih = further l refl (h.0 (eqb-false x a v)) ih

-- different numbers below n are at most n
pub few-below : (n : ℕ) (l : List ℕ) → All (λ x. x < n) l → different l ≡ true → length l ≤ n
few-below zero [] h d = omega arith
few-below zero (x ∷ l) h d = absurd (omega (arith, h.0))
few-below (suc n) l h d = go (among l n) refl (few-below n)
  where
    lower : (m : List ℕ) → All (λ x. x < suc n) m → All (λ x. x ≢ n) m → All (λ x. x < n) m
    lower [] a b = tt
    lower (x ∷ m) a b = (less a.0 b.0, lower m a.1 b.1)
      where
        less : x < suc n → x ≢ n → x < n
        less p q = omega arith

    go : (t : Bool) → among l n ≡ t → ((m : List ℕ) → All (λ x. x < n) m → different m ≡ true → length m ≤ n) → length l ≤ suc n
    go true e ih =
        let w = length_without n l d e in
        let k = ih (without n l)
        (lower (without n l) (all_without (λ x. x < suc n) n l h) (not-among (without n l) n (among-without n l n ∙ rw (eq-eqb n n refl) refl)))
        (distinct-different (without n l) (distinct_without n l (distinct l d))) in
        omega arith
    go false e ih = let k = ih l (lower l h (not-among l n e)) d in omega arith

-- ---- the first file

pub first_holds : (P : List ℕ → Type 0) (os : List (Option (List ℕ))) → All (λ o. (f : List ℕ) → o ≡ some f → P f) os → (f : List ℕ) → first_file os ≡ some f → P f
first_holds P [] h f e = absurd (true-false (ap given e) refl)
first_holds P (none ∷ os) h f e = first_holds P os h.1 f e
first_holds P (some g ∷ os) h f e = h.0 f e

pub first-only : (f : List ℕ) (os : List (Option (List ℕ))) → All (λ o. (g : List ℕ) → o ≡ some g → g ≡ f) os
    → (i : ℕ) → i < length os → get_or os i none ≡ some f → first_file os ≡ some f
first-only f [] h i l e = absurd (omega arith)
first-only f (none ∷ os) h zero l e = absurd (true-false (ap given e) refl)
first-only f (none ∷ os) h (suc i) l e = first-only f os h.1 i (omega arith) e
first-only f (some g ∷ os) h i l e = ap some (h.0 g refl)

pub first-none : (os : List (Option (List ℕ))) → ((f : List ℕ) → first_file os ≡ some f → ⊥) → first_file os ≡ none
first-none os h = go (first_file os) h
  where
    go : (o : Option (List ℕ)) → ((f : List ℕ) → o ≡ some f → ⊥) → o ≡ none
    go none k = refl
    go (some f) k = absurd (k f refl)
