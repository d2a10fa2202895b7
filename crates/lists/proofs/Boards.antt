-- Laws of lists of board numbers: who is among them, that they differ, a list without one number.
-- Assumes nothing.
use Prim.Native.Nat.{ℕ, suc, ◌<◌}
use mathlib.Core.Path.{◌≡◌, refl, sym, ◌∙◌, ap, subst}
use mathlib.Core.Bool.{Bool, true, false}
use mathlib.Core.List.{List, [], ◌∷◌, ◌++◌}
use mathlib.Core.Logic.{◌≢◌, ◌⊎◌, inl, inr}
use lib.Dec.{ltb, eqb}
use lib.ListN.{length, get_or, take, drop}
use lib.Seq.{take_at, drop_at}
use borrow.Author.Tests.{ltb-true, lt-ltb, eqb-true, eqb-false, eq-eqb, ne_eqb}
use Rattle.lists.specs.Tests.{pick, below, among, different}
use Rattle.lists.specs.Lists.{All, joined, without}
use Rattle.lists.proofs.Tests.{true-false, every-all, all-every}
use Rattle.lists.proofs.Alls.{all-imp, all-at, append-all, Distinct}

-- ---- below n

pub below_all : (n : ℕ) (l : List ℕ) → below n l ≡ true → All (λ x. x < n) l
below_all n l h = all-imp (λ x. ltb x n ≡ true) (λ x. x < n) (λ x e. ltb-true x n e) l (every-all (λ x. ltb x n) l h)

pub all-below : (n : ℕ) (l : List ℕ) → All (λ x. x < n) l → below n l ≡ true
all-below n l h = all-every (λ x. ltb x n) l (all-imp (λ x. x < n) (λ x. ltb x n ≡ true) (λ x e. lt-ltb x n e) l h)

-- ---- among

pub among-cons : (y x : ℕ) (l : List ℕ) → among (y ∷ l) x ≡ true → (y ≡ x) ⊎ (among l x ≡ true)
among-cons y x l h = go (eqb y x) refl h
  where
    go : (t : Bool) → eqb y x ≡ t → pick t true (among l x) ≡ true → (y ≡ x) ⊎ (among l x ≡ true)
    go true e k = inl (eqb-true y x e)
    go false e k = inr k

pub not-among-cons : (y x : ℕ) (l : List ℕ) → among (y ∷ l) x ≡ false → (y ≡ x → ⊥) × (among l x ≡ false)
not-among-cons y x l h = go (eqb y x) refl h
  where
    go : (t : Bool) → eqb y x ≡ t → pick t true (among l x) ≡ false → (y ≡ x → ⊥) × (among l x ≡ false)
    go true e k = absurd (true-false refl k)
    go false e k = (eqb-false y x e, k)

pub among-head : (x : ℕ) (l : List ℕ) → among (x ∷ l) x ≡ true
among-head x l = rw (eq-eqb x x refl) refl

pub among-tail : (y x : ℕ) (l : List ℕ) → among l x ≡ true → among (y ∷ l) x ≡ true
among-tail y x l e = go (eqb y x)
  where
    go : (t : Bool) → pick t true (among l x) ≡ true
    go true = refl
    go false = e

pub all_among : (P : ℕ → Type 0) (l : List ℕ) (x : ℕ) → All P l → among l x ≡ true → P x
all_among P [] x h e = absurd (true-false e refl)
all_among P (y ∷ l) x h e = go (eqb y x) refl e (λ k. all_among P l x h.1 k)
  where
    go : (t : Bool) → eqb y x ≡ t → pick t true (among l x) ≡ true → (among l x ≡ true → P x) → P x
    go true q k ih = subst P (eqb-true y x q) h.0
    go false q k ih = ih k

-- what holds of each number that is among the list
pub among-all : (P : ℕ → Type 0) (l : List ℕ) → ((x : ℕ) → among l x ≡ true → P x) → All P l
among-all P [] f = tt
among-all P (y ∷ l) f = (f y (among-head y l), among-all P l (λ x e. f x (among-tail y x l e)))

-- a number of the list is among it
pub all-is-among : (l : List ℕ) → All (λ x. among l x ≡ true) l
all-is-among l = among-all (λ x. among l x ≡ true) l (λ x e. e)

pub get_d-among : (l : List ℕ) (a : ℕ) → a < length l → among l (get_or l a 0) ≡ true
get_d-among l a h = all-at (λ x. among l x ≡ true) 0 l (all-is-among l) a h

pub among-append-left : (xs ys : List ℕ) (x : ℕ) → among xs x ≡ true → among (xs ++ ys) x ≡ true
among-append-left [] ys x e = absurd (true-false e refl)
among-append-left (y ∷ xs) ys x e = go (eqb y x) e (λ k. among-append-left xs ys x k)
  where
    go : (t : Bool) → pick t true (among xs x) ≡ true → (among xs x ≡ true → among (xs ++ ys) x ≡ true) → pick t true (among (xs ++ ys) x) ≡ true
    go true k ih = refl
    go false k ih = ih k

pub among-append-none : (xs ys : List ℕ) (x : ℕ) → among xs x ≡ false → among (xs ++ ys) x ≡ among ys x
among-append-none [] ys x e = refl
among-append-none (y ∷ xs) ys x e = let p = not-among-cons y x xs e in rw (ne_eqb y x p.0) (among-append-none xs ys x p.1)

-- ---- different

pub different-cons : (x : ℕ) (l : List ℕ) → different (x ∷ l) ≡ true → (among l x ≡ false) × (different l ≡ true)
different-cons x l h = go (among l x) refl h
  where
    go : (t : Bool) → among l x ≡ t → pick t false (different l) ≡ true → (among l x ≡ false) × (different l ≡ true)
    go true e k = absurd (true-false k refl)
    go false e k = (e, k)

pub not-among : (l : List ℕ) (x : ℕ) → among l x ≡ false → All (λ y. y ≢ x) l
not-among [] x h = tt
not-among (y ∷ l) x h = let p = not-among-cons y x l h in (p.0, not-among l x p.1)

pub among-not : (l : List ℕ) (x : ℕ) → All (λ y. y ≢ x) l → among l x ≡ false
among-not [] x h = refl
among-not (y ∷ l) x h = rw (ne_eqb y x h.0) (among-not l x h.1)

pub distinct : (l : List ℕ) → different l ≡ true → Distinct l
distinct [] h = tt
distinct (x ∷ l) h = let p = different-cons x l h in (not-among l x p.0, distinct l p.1)

pub distinct-different : (l : List ℕ) → Distinct l → different l ≡ true
distinct-different [] h = refl
distinct-different (x ∷ l) h = rw (among-not l x h.0) (distinct-different l h.1)

-- two lists with no number in common
pub distinct_append : (xs ys : List ℕ) → Distinct xs → Distinct ys → All (λ x. among ys x ≡ false) xs → Distinct (xs ++ ys)
distinct_append [] ys a b h = b
distinct_append (x ∷ xs) ys a b h =
    (append-all (λ y. y ≢ x) xs ys a.0 (not-among ys x h.0), distinct_append xs ys a.1 b h.1)

-- ---- what each number of a list has

pub joined-all : (f g : ℕ → List ℕ) (l : List ℕ) → All (λ x. f x ≡ g x) l → joined f l ≡ joined g l
joined-all f g [] h = refl
joined-all f g (x ∷ l) h = let e = h.0 in let r = joined-all f g l h.1 in cc

-- ---- a list without one number

pub all_without : (P : ℕ → Type 0) (x : ℕ) (l : List ℕ) → All P l → All P (without x l)
all_without P x [] h = tt
all_without P x (y ∷ l) h = go (eqb y x) (all_without P x l h.1)
  where
    go : (t : Bool) → All P (without x l) → All P (pick t [] (y ∷ []) ++ without x l)
    go true ih = ih
    go false ih = (h.0, ih)

pub distinct_without : (i : ℕ) (l : List ℕ) → Distinct l → Distinct (without i l)
distinct_without i [] h = tt
distinct_without i (y ∷ l) h = go (eqb y i) (distinct_without i l h.1)
  where
    go : (t : Bool) → Distinct (without i l) → Distinct (pick t [] (y ∷ []) ++ without i l)
    go true r = r
    go false r = (all_without (λ x. x ≢ y) i l h.0, r)

pub among-without : (i : ℕ) (l : List ℕ) (x : ℕ) → among (without i l) x ≡ pick (eqb i x) false (among l x)
among-without i [] x = go (eqb i x)
  where
    go : (t : Bool) → false ≡ pick t false false
    go true = refl
    go false = refl
among-without i (y ∷ l) x = go (eqb y i) refl (eqb i x) refl (eqb y x) refl (among-without i l x)
  where
    go : (t : Bool) → eqb y i ≡ t → (u : Bool) → eqb i x ≡ u → (v : Bool) → eqb y x ≡ v → among (without i l) x ≡ pick (eqb i x) false (among l x)
        → among (pick t [] (y ∷ []) ++ without i l) x ≡ pick u false (pick v true (among l x))
    go true t true u v ev ih = ih ∙ rw u refl
    go true t false u true v ih = absurd (eqb-false i x u (sym (eqb-true y i t) ∙ eqb-true y x v))
    go true t false u false v ih = ih ∙ rw u refl
    go false t true u true v ih = absurd (eqb-false y i t (eqb-true y x v ∙ sym (eqb-true i x u)))
    go false t true u false v ih = rw v (ih ∙ rw u refl)
    go false t false u true v ih = rw v refl
    go false t false u false v ih = rw v (ih ∙ rw u refl)

-- the number itself is gone
pub without-self : (i : ℕ) (l : List ℕ) → All (λ y. among (i ∷ []) y ≡ false) (without i l)
without-self i [] = tt
without-self i (y ∷ l) = go (eqb y i) refl (without-self i l)
  where
    go : (t : Bool) → eqb y i ≡ t → All (λ x. among (i ∷ []) x ≡ false) (without i l)
        → All (λ x. among (i ∷ []) x ≡ false) (pick t [] (y ∷ []) ++ without i l)
    go true q r = r
    go false q r = (ap (λ (t : Bool). pick t true false) (ne_eqb i y (λ e. true-false (eq-eqb y i (sym e)) q)), r)

pub not-among-without : (i : ℕ) (l : List ℕ) (x : ℕ) → among l x ≡ false → among (without i l) x ≡ false
not-among-without i l x h = among-without i l x ∙ rw h (go (eqb i x))
  where
    go : (t : Bool) → pick t false false ≡ false
    go true = refl
    go false = refl

pub alone : (i x : ℕ) (l : List ℕ) → among l i ≡ true → among l x ≡ false → among (i ∷ []) x ≡ false
alone i x l h n =
    ap (λ (t : Bool). pick t true false) (ne_eqb i x (λ e. true-false h (subst (λ (y : ℕ). among l y ≡ false) (sym e) n)))

pub without-none : (x : ℕ) (l : List ℕ) → among l x ≡ false → without x l ≡ l
without-none x [] h = refl
without-none x (y ∷ l) h =
    let p = not-among-cons y x l h in
    let e : eqb y x ≡ false = ne_eqb y x p.0 in
    rw e (ap (λ (t : List ℕ). y ∷ t) (without-none x l p.1))

pub length_without : (x : ℕ) (l : List ℕ) → different l ≡ true → among l x ≡ true → suc (length (without x l)) ≡ length l
length_without x [] d h = absurd (true-false h refl)
length_without x (y ∷ l) d h = go (eqb y x) refl h (λ k. length_without x l (different-cons y l d).1 k)
  where
    go : (t : Bool) → eqb y x ≡ t → pick t true (among l x) ≡ true → (among l x ≡ true → suc (length (without x l)) ≡ length l)
        → suc (length (pick t [] (y ∷ []) ++ without x l)) ≡ suc (length l)
    go true e k ih =
        let q : among l x ≡ false = subst (λ (z : ℕ). among l z ≡ false) (eqb-true y x e) (different-cons y l d).0 in
        ap (λ (t : List ℕ). suc (length t)) (without-none x l q)
    go false e k ih = ap suc (ih k)

-- lists put together of pieces of the same lengths are the same just where the pieces are
pub joined-parts : (f g : ℕ → List ℕ) (l : List ℕ) → All (λ x. length (f x) ≡ length (g x)) l → joined f l ≡ joined g l → All (λ x. f x ≡ g x) l
joined-parts f g [] h e = tt
joined-parts f g (x ∷ l) h e = (
  sym (take_at (f x) (joined f l) (length (g x)) h.0) ∙ ap (take (length (g x))) e ∙ take_at (g x) (joined g l) (length (g x)) refl,
  joined-parts f g l h.1 (sym (drop_at (f x) (joined f l) (length (g x)) h.0) ∙ ap (drop (length (g x))) e ∙ drop_at (g x) (joined g l) (length (g x)) refl),
)
