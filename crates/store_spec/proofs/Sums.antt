-- Laws of sums of lists of one length, and of the boards in service.
-- Assumes nothing.
use Prim.Native.Nat.{ℕ, zero, suc, ◌+◌, ◌≤◌, ◌<◌}
use mathlib.Core.Path.{◌≡◌, refl, sym, ◌∙◌, ap, ap₂}
use mathlib.Core.Bool.{Bool, true, false}
use mathlib.Core.List.{List, [], ◌∷◌, ◌++◌, append-nil, append_assoc}
use native.Mathlib.Omega.{arith}
use native.Mathlib.Nat.{min-le_left}
use lib.ListN.{length, take, drop, take-append-drop, length-drop, length-take}
use lib.Seq.{length-take-le, drop-drop}
use Rattle.lists.specs.Lists.{All, tabulate, concat, put}
use Rattle.lists.specs.Tests.{pick, among}
use Rattle.lists.proofs.Alls.{append-all, all-imp}
use Rattle.lists.proofs.Boards.{all_among, among-head, among-append-left, among-append-none}
use Rattle.gf256.specs.Field.{add}
use Rattle.gf256.proofs.Ring.{ring}
use Rattle.polynomial.specs.Polynomial.{plus}
use Rattle.store_spec.specs.Record.{Record, in_service, serving}

add_twice : (a b : ℕ) → add a (add a b) ≡ b
add_twice a b = simp ring

pub add-both : (a b : ℕ) → add a (add b b) ≡ a
add-both a b = simp ring

pub plus-twice : (p q : List ℕ) → length p ≡ length q → plus p (plus p q) ≡ q
plus-twice [] q h = refl
plus-twice (a ∷ p) [] h = absurd (omega arith)
plus-twice (a ∷ p) (b ∷ q) h = ap₂ {C = List ℕ} (λ x l. x ∷ l) (add_twice a b) (plus-twice p q (omega arith))

pub plus-both : (p q : List ℕ) → length p ≡ length q → plus p (plus q q) ≡ p
plus-both [] [] h = refl
plus-both [] (b ∷ q) h = absurd (omega arith)
plus-both (a ∷ p) [] h = absurd (omega arith)
plus-both (a ∷ p) (b ∷ q) h = ap₂ {C = List ℕ} (λ x l. x ∷ l) (add-both a b) (plus-both p q (omega arith))

-- the sum with a list that is no longer
pub length-plus-short : (p q : List ℕ) → length p ≤ length q → length (plus p q) ≡ length q
length-plus-short [] q h = refl
length-plus-short (a ∷ p) [] h = absurd (omega arith)
length-plus-short (a ∷ p) (b ∷ q) h = ap suc (length-plus-short p q (omega arith))

pub take_short : (w : ℕ) (l : List ℕ) → length (take w l) ≤ w
take_short w l = omega (arith, length-take w l, min-le_left w (length l))

-- no bytes put, and what is there put again
pub put-none : (l : List ℕ) (at : ℕ) → put l at [] ≡ l
unfolding put
put-none l at = let z : at + 0 ≡ at = omega arith in rw (append-nil, z) (take-append-drop at l)

pub put-again : (l : List ℕ) (at w : ℕ) → at + w ≤ length l → put l at (take w (drop at l)) ≡ l
unfolding put
put-again l at w h =
    let e : length (take w (drop at l)) ≡ w = length-take-le w (drop at l) (rw length-drop (omega arith)) in
    rw e (rw append_assoc
    (ap (λ (x : List ℕ). take at l ++ (take w (drop at l) ++ x)) (ap (λ (m : ℕ). drop m l) (let q : at + w ≡ w + at = omega arith in q) ∙ swap)
    ∙ ap (λ (x : List ℕ). take at l ++ x) (take-append-drop w (drop at l)) ∙ take-append-drop at l))
  where
    swap : drop (w + at) l ≡ drop w (drop at l)
    swap = let q : w + at ≡ at + w = omega arith in ap (λ (m : ℕ). drop m l) q ∙ sym (drop-drop w at l)

-- ---- lists one after another

pub concat-all : (P : ℕ → Type 0) (n : ℕ) (f : ℕ → List ℕ) → ((i : ℕ) → i < n → All P (f i)) → All P (concat (tabulate n f))
concat-all P zero f h = tt
concat-all P (suc n) f h =
    append-all P (f 0) (concat (tabulate n (λ i. f (suc i)))) (h 0 (omega arith)) (concat-all P n (λ i. f (suc i)) (λ i k. h (suc i) (omega arith)))

pub among-append-right : (xs ys : List ℕ) (x : ℕ) → among ys x ≡ true → among (xs ++ ys) x ≡ true
among-append-right xs ys x e = go (among xs x) refl
  where
    go : (t : Bool) → among xs x ≡ t → among (xs ++ ys) x ≡ true
    go true q = among-append-left xs ys x q
    go false q = among-append-none xs ys x q ∙ e

pub among-concat : (n : ℕ) (f : ℕ → List ℕ) (x i : ℕ) → i < n → among (f i) x ≡ true → among (concat (tabulate n f)) x ≡ true
among-concat zero f x i h e = absurd (omega arith)
among-concat (suc n) f x zero h e = among-append-left (f 0) (concat (tabulate n (λ i. f (suc i)))) x e
among-concat (suc n) f x (suc i) h e =
    among-append-right (f 0) (concat (tabulate n (λ i. f (suc i)))) x (among-concat n (λ i. f (suc i)) x i (omega arith) e)

-- ---- the boards in service

pub serving-on : (s : Record) → All (λ i. (i < s.sizes.n) × (in_service s i ≡ true)) (serving s)
serving-on s = concat-all (λ i. (i < s.sizes.n) × (in_service s i ≡ true)) s.sizes.n (λ i. pick (in_service s i) (i ∷ []) []) (λ i h. go i h (in_service s i) refl)
  where
    go : (i : ℕ) → i < s.sizes.n → (t : Bool) → in_service s i ≡ t → All (λ i. (i < s.sizes.n) × (in_service s i ≡ true)) (pick t (i ∷ []) [])
    go i h true e = ((h, e), tt)
    go i h false e = tt

pub serving-low : (s : Record) → All (λ i. i < s.sizes.n) (serving s)
serving-low s = all-imp (λ i. (i < s.sizes.n) × (in_service s i ≡ true)) (λ i. i < s.sizes.n) (λ i p. p.0) (serving s) (serving-on s)

pub serving-has : (s : Record) (i : ℕ) → i < s.sizes.n → in_service s i ≡ true → among (serving s) i ≡ true
serving-has s i h e =
    among-concat s.sizes.n (λ j. pick (in_service s j) (j ∷ []) []) i i h (ap (λ (t : Bool). among (pick t (i ∷ []) []) i) e ∙ among-head i [])

pub serving-is : (s : Record) (i : ℕ) → among (serving s) i ≡ true → in_service s i ≡ true
serving-is s i e = (all_among (λ i. (i < s.sizes.n) × (in_service s i ≡ true)) (serving s) i (serving-on s) e).1
