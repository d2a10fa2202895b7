-- Lists that leave two out: by places, and what holds of them; those that are odd where all others hold.
-- Assumes nothing.
use Prim.Native.Nat.{ℕ, zero, suc, ◌+◌, ◌-◌, ◌≤◌, ◌<◌}
use mathlib.Core.Path.{◌≡◌, refl, sym, ◌∙◌, ap, ap₂, subst}
use mathlib.Core.Bool.{Bool, true, false, not}
use mathlib.Core.List.{List, [], ◌∷◌, ◌++◌, append-nil}
use mathlib.Core.Logic.{◌⊎◌, inl, inr}
use native.Mathlib.Decide.{dec_lt}
use native.Mathlib.Omega.{arith}
use lib.Dec.{leb, ltb, eqb}
use lib.ListN.{length, get_or}
use lib.Seq.{ext_get_or}
use borrow.Author.Tests.{lt-ltb, le-ltb, le-leb, leb-true, eqb-true, eqb-false}
use Rattle.lists.specs.Tests.{pick, among, different}
use Rattle.lists.specs.Lists.{All, tabulate}
use Rattle.lists.proofs.Alls.{all-imp}
use Rattle.lists.proofs.Boards.{all-is-among}
use Rattle.lists.proofs.Pieces.{length-tabulate, tabulate-at}
use Rattle.lists.proofs.Tests.{is_false}
use Rattle.store_spec.specs.Careful.{those, leaving, odd_report}
use Rattle.store_spec.proofs.Those.{those-count, those-none, leaving-all, leaving-length, leaving-different}
use Rattle.careful_pairs.specs.Steps.{leaving_pair, found_of, odd_of}

-- ---- by places

abbrev pub place_of : ℕ → ℕ → ℕ
place_of p t = pick (ltb t p) t (t + 2)

pub place_is : (p t r : ℕ) → (t < p → r ≡ t) × (p ≤ t → r ≡ t + 2) → r ≡ place_of p t
place_is p t r e = go (dec_lt t p)
  where
    go : Dec (t < p) → r ≡ place_of p t
    go (yes h) = e.0 h ∙ sym (ap (λ (b : Bool). pick b t (t + 2)) (lt-ltb t p h))
    go (no h) = e.1 (omega arith) ∙ sym (ap (λ (b : Bool). pick b t (t + 2)) (le-ltb t p (omega arith)))

pub place-low : (p t r m : ℕ) → (t < p → r ≡ t) × (p ≤ t → r ≡ t + 2) → t + 2 < m → r < m
place-low p t r m e h = go (dec_lt t p)
  where
    go : Dec (t < p) → r < m
    go (yes k) = omega (arith, e.0 k)
    go (no k) = let q : p ≤ t = omega arith in omega (arith, e.1 q)

pub length-pair : (p : ℕ) (l : List ℕ) → p + 2 ≤ length l → length (leaving_pair p l) + 2 ≡ length l
length-pair p l h =
    let a = leaving-length p l (omega arith) in
    omega (arith, a, leaving-length p (leaving p l) (omega (arith, a)))

leave_low : (p : ℕ) (l : List ℕ) (t : ℕ) → t < p → get_or (leaving p l) t 0 ≡ get_or l t 0
leave_low p [] t h = refl
leave_low zero (x ∷ l) t h = absurd (omega arith)
leave_low (suc p) (x ∷ l) zero h = refl
leave_low (suc p) (x ∷ l) (suc t) h = leave_low p l t (omega arith)

leave-high : (p : ℕ) (l : List ℕ) (t : ℕ) → p ≤ t → get_or (leaving p l) t 0 ≡ get_or l (suc t) 0
leave-high p [] t h = refl
leave-high zero (x ∷ l) t h = refl
leave-high (suc p) (x ∷ l) zero h = absurd (omega arith)
leave-high (suc p) (x ∷ l) (suc t) h = leave-high p l t (omega arith)

pair-at : (p : ℕ) (l : List ℕ) (t : ℕ) → get_or (leaving_pair p l) t 0 ≡ get_or l (place_of p t) 0
pair-at p l t = go (dec_lt t p)
  where
    go : Dec (t < p) → get_or (leaving_pair p l) t 0 ≡ get_or l (place_of p t) 0
    go (yes h) = leave_low p (leaving p l) t h ∙ leave_low p l t h ∙ ap (λ (b : Bool). get_or l (pick b t (t + 2)) 0) (sym (lt-ltb t p h))
    go (no h) =
        let e : suc (suc t) ≡ t + 2 = omega arith in
        leave-high p (leaving p l) t (omega arith) ∙ leave-high p l (suc t) (omega arith) ∙ ap (λ (i : ℕ). get_or l i 0) e
        ∙ ap (λ (b : Bool). get_or l (pick b t (t + 2)) 0) (sym (le-ltb t p (omega arith)))

pub pair_is : (p : ℕ) (l out₀ : List ℕ) → p + 2 ≤ length l → length out₀ + 2 ≡ length l → tabulate (length out₀) (λ t. get_or l (place_of p t) 0) ≡ leaving_pair p l
pair_is p l out₀ h e =
    ext_get_or 0 (tabulate (length out₀) (λ t. get_or l (place_of p t) 0)) (leaving_pair p l)
    (length-tabulate (length out₀) (λ t. get_or l (place_of p t) 0) ∙ omega (arith, length-pair p l h))
    (λ t k. tabulate-at (length out₀) (λ t. get_or l (place_of p t) 0) 0 t (omega (arith, k, length-tabulate (length out₀) (λ t. get_or l (place_of p t) 0))) ∙ sym (pair-at p l t))

-- ---- what holds of all of them

pub pair-all : (P : ℕ → Type 0) (p : ℕ) (l : List ℕ) → All P l → All P (leaving_pair p l)
pair-all P p l h = leaving-all P p (leaving p l) (leaving-all P p l h)

pub pair-different : (p : ℕ) (l : List ℕ) → different l ≡ true → different (leaving_pair p l) ≡ true
pair-different p l d = leaving-different p (leaving p l) (leaving-different p l d)

-- either can be left out last
pair-swap : (p : ℕ) (l : List ℕ) → leaving p (leaving (suc p) l) ≡ leaving_pair p l
pair-swap p [] = refl
pair-swap zero (x ∷ []) = refl
pair-swap zero (x ∷ y ∷ l) = refl
pair-swap (suc p) (x ∷ l) = ap (λ (m : List ℕ). x ∷ m) (pair-swap p l)

-- what is left is among what is left where one of the two is left out
pub pair-among : (p : ℕ) (l : List ℕ) → All (λ j. among (leaving p l) j ≡ true) (leaving_pair p l)
pair-among p l = leaving-all (λ j. among (leaving p l) j ≡ true) p (leaving p l) (all-is-among (leaving p l))

pub pair-among-next : (p : ℕ) (l : List ℕ) → All (λ j. among (leaving (suc p) l) j ≡ true) (leaving_pair p l)
pair-among-next p l =
    subst (λ (m : List ℕ). All (λ j. among (leaving (suc p) l) j ≡ true) m) (pair-swap p l)
    (leaving-all (λ j. among (leaving (suc p) l) j ≡ true) p (leaving (suc p) l) (all-is-among (leaving (suc p) l)))

-- ---- those that are odd

abbrev pub only : Bool → ℕ → List ℕ
only b x = pick b (x ∷ []) []

pub those-pair : (q : ℕ → Bool) (p : ℕ) (l : List ℕ) → p + 2 ≤ length l → All (λ j. q j ≡ false) (leaving_pair p l)
    → those q l ≡ only (q (get_or l p 0)) (get_or l p 0) ++ only (q (get_or l (p + 1) 0)) (get_or l (p + 1) 0)
those-pair q zero [] h a = absurd (omega arith)
those-pair q zero (x ∷ []) h a = absurd (omega arith)
those-pair q zero (x ∷ y ∷ l) h a =
    ap (λ (m : List ℕ). only (q x) x ++ (only (q y) y ++ m)) (those-none q l a) ∙ ap (λ (m : List ℕ). only (q x) x ++ m) (append-nil (only (q y) y))
those-pair q (suc p) [] h a = absurd (omega arith)
those-pair q (suc p) (x ∷ l) h a =
    let e : suc (p + 1) ≡ suc p + 1 = omega arith in
    ap (λ (b : Bool). only b x ++ those q l) a.0 ∙ those-pair q p l (omega arith) a.1
    ∙ ap (λ (i : ℕ). only (q (get_or l p 0)) (get_or l p 0) ++ only (q (get_or (x ∷ l) i 0)) (get_or (x ∷ l) i 0)) e

-- k + 2 boards, of which all but two hold
module _ (h : ℕ → Bool) (k p : ℕ) (l : List ℕ) (ll : length l ≡ k + 2) (hp : p + 2 ≤ length l) (rest : All (λ j. h j ≡ true) (leaving_pair p l)) where
  abbrev x : ℕ
  x = get_or l p 0

  abbrev y : ℕ
  y = get_or l (p + 1) 0

  odd-are : those (λ j. not (h j)) l ≡ only (not (h x)) x ++ only (not (h y)) y
  odd-are = those-pair (λ j. not (h j)) p l hp (all-imp (λ j. h j ≡ true) (λ j. not (h j) ≡ false) (λ j e. ap not e) (leaving_pair p l) rest)

  pub told_is : (a b : Bool) → a ≡ h x → b ≡ h y
      → (found_of a b ≡ leb (k + 1) (length (those h l))) × (found_of a b ≡ true → odd_of a b x y ≡ odd_report (those (λ j. not (h j)) l))
  told_is a b ea eb = go a b (odd-are ∙ ap₂ {C = List ℕ} (λ (u v : Bool). only (not u) x ++ only (not v) y) (sym ea) (sym eb))
    where
      count : length (those h l) + length (those (λ j. not (h j)) l) ≡ k + 2
      count = those-count h l ∙ ll

      go : (a b : Bool) → those (λ j. not (h j)) l ≡ only (not a) x ++ only (not b) y
          → (found_of a b ≡ leb (k + 1) (length (those h l))) × (found_of a b ≡ true → odd_of a b x y ≡ odd_report (those (λ j. not (h j)) l))
      go true true e = (sym (le-leb (k + 1) (length (those h l)) (omega (arith, count, ap length e))), (λ t. sym (ap odd_report e)))
      go true false e = (sym (le-leb (k + 1) (length (those h l)) (omega (arith, count, ap length e))), (λ t. sym (ap odd_report e)))
      go false true e = (sym (le-leb (k + 1) (length (those h l)) (omega (arith, count, ap length e))), (λ t. sym (ap odd_report e)))
      go false false e = (sym (is_false (leb (k + 1) (length (those h l))) (λ t. absurd (omega (arith, count, ap length e, leb-true (k + 1) (length (those h l)) t)))), (λ t. sym (ap odd_report e)))

-- ---- all the tries

-- the pairs that are left out begin two places before one another, and the last at 0
abbrev pub places_from : ℕ → ℕ → List ℕ
places_from zero end = []
places_from (suc n) zero = []
places_from (suc n) (suc end) = (suc end - 2) ∷ places_from n (suc end - 2)

-- each place of the list is one of some pair
pub some_pair : (n end t : ℕ) → end ≤ n → t < end → (q : ℕ) × (q < length (places_from n end)) × ((t ≡ get_or (places_from n end) q 0) ⊎ (t ≡ suc (get_or (places_from n end) q 0)))
some_pair zero end t h k = absurd (omega arith)
some_pair (suc n) zero t h k = absurd (omega arith)
some_pair (suc n) (suc end) t h k = go (dec_lt t (suc end - 2)) (some_pair n (suc end - 2) t (omega arith))
  where
    go : Dec (t < suc end - 2)
        → (t < suc end - 2 → (q : ℕ) × (q < length (places_from n (suc end - 2))) × ((t ≡ get_or (places_from n (suc end - 2)) q 0) ⊎ (t ≡ suc (get_or (places_from n (suc end - 2)) q 0))))
        → (q : ℕ) × (q < length (places_from (suc n) (suc end))) × ((t ≡ get_or (places_from (suc n) (suc end)) q 0) ⊎ (t ≡ suc (get_or (places_from (suc n) (suc end)) q 0)))
    go (yes l) ih = let r = ih l in (suc r.0, omega (arith, r.1), r.2)
    go (no l) ih = (0, omega arith, which (eqb t (suc end - 2)) refl)
      where
        which : (b : Bool) → eqb t (suc end - 2) ≡ b → (t ≡ suc end - 2) ⊎ (t ≡ suc (suc end - 2))
        which true e = inl (eqb-true t (suc end - 2) e)
        which false e = let m = eqb-false t (suc end - 2) e in inr (omega (arith, m, l, k))

pub places-low : (n end m : ℕ) → end ≤ m → 2 ≤ m → All (λ p. p + 2 ≤ m) (places_from n end)
places-low zero end m h k = tt
places-low (suc n) zero m h k = tt
places-low (suc n) (suc end) m h k = (omega arith, places-low n (suc end - 2) m (omega arith) k)
