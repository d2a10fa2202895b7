-- k is tight. P(X) is the product of X − x_i over k − 1 boards, with k coefficients, the last 01. A stripe with a_ij = p_i p_j and all else 00
-- has F(x, y) = P(x) P(y): of this stripe those boards keep only 00. Added to the first stripe of a file it gives another file with the
-- same shares. That boards and points differ is not used.
-- Assumes nothing.
use mathlib.Core.Path.{◌≡◌, refl, sym, ap, ap₂, fun_ext, ◌∙◌}
use mathlib.Core.Logic.{◌≢◌, inl, inr}
use mathlib.Core.List.{List, [], ◌∷◌}
use Prim.Native.Nat.{ℕ, zero, suc, ◌+◌, ◌*◌, ◌<◌, ◌≤◌}
use native.Mathlib.Decide.{dec_lt}
use native.Mathlib.Nat.{suc-mul, mul-le-mul_left}
use native.Mathlib.Omega.{arith}
use lib.ListN.{length, get_or, get_or-eq_default}
use Rattle.lists.specs.Lists.{All, Bytes, tabulate, join, fit}
use Rattle.lists.proofs.Alls.{all-imp}
use Rattle.lists.proofs.Pieces.{length-tabulate, tabulate-at, tabulate-all, length-join, join-ext, join-bytes, piece-join, piece-at, length-fit, fit-bytes, fit_at}
use Rattle.gf256.specs.Field.{add, mul}
use Rattle.gf256.proofs.Field.{mul_comm, mul-lt, one-mul, zero-mul, mul-zero}
use Rattle.gf256.proofs.Ring.{ring, add_twice}
use Rattle.gf256.proofs.Sums.{add-self, add_zero_r}
use Rattle.sizes.specs.Sizing.{B, stripes}
use Rattle.sizes.specs.declared.Sizes.{Sizes}
use Rattle.sizes.proofs.Legal.{Legal, legal-facts, row_fits, B-parts}
use Rattle.polynomial.specs.Polynomial.{eval, step, plus, scale, Grid, entry, at_y, eval_grid}
use Rattle.polynomial.proofs.Poly.{eval-step}
use Rattle.polynomial.proofs.Linear.{eval-scale, plus-at, scale_at, plus-bytes, length-plus}
use Rattle.polynomial.proofs.Grid.{at_y-at}
use Rattle.mbcr.specs.Share.{point, points, stripe, grid, F, symbols, kept, share}
use Rattle.mbcr.specs.Tight.{Tight}
use Rattle.mbcr.proofs.Points.{length-points}
use Rattle.mbcr.proofs.Shape.{length-stripe, entry-a, entry-b, entry-c, entry-none}
use Rattle.mbcr.proofs.Places.{stripe-place}
use Rattle.mbcr.proofs.Linear.{eval-ext, stripe-plus, F-plus}

-- ---- the polynomial with given roots

-- the product of X − a over all a of a list
abbrev vanishing : List ℕ → List ℕ
vanishing [] = 1 ∷ []
vanishing (a ∷ xs) = step a 0 (vanishing xs)

-- a product by X − a has the root a, and the roots that it had
new-root : (a : ℕ) (q : List ℕ) → eval (step a 0 q) a ≡ 0
new-root a q = eval-step a 0 q a ∙ law a (eval q a)
  where
    law : (a e : ℕ) → add 0 (mul (add a a) e) ≡ 0
    law a e = simp ring

old-root : (a : ℕ) (q : List ℕ) (x : ℕ) → eval q x ≡ 0 → eval (step a 0 q) x ≡ 0
old-root a q x h = eval-step a 0 q x ∙ law a x (eval q x) h
  where
    law : (a x e : ℕ) → e ≡ 0 → add 0 (mul (add x a) e) ≡ 0
    law a x e h = rw h (simp ring)

vanishes : (xs : List ℕ) → All (λ x. eval (vanishing xs) x ≡ 0) xs
vanishes [] = tt
vanishes (a ∷ xs) = (new-root a (vanishing xs), all-imp _ _ (old-root a (vanishing xs)) xs (vanishes xs))

-- its coefficients: the last is 01
add_none : (c a : ℕ) → c ≡ add c (mul a 0)
add_none c a = simp ring

step-at : (a v : ℕ) (q : List ℕ) (i : ℕ) → get_or (step a v q) (suc i) 0 ≡ add (get_or q i 0) (mul a (get_or q (suc i) 0))
step-at a v [] i = add_none 0 a
step-at a v (c ∷ []) zero = add_none c a
step-at a v (c ∷ d ∷ q) zero = refl
step-at a v (c ∷ q) (suc i) = step-at a c q i

vanishing-past : (xs : List ℕ) (i : ℕ) → length xs < i → get_or (vanishing xs) i 0 ≡ 0
vanishing-past xs zero h = absurd (omega arith)
vanishing-past [] (suc i) h = refl
vanishing-past (a ∷ xs) (suc i) h =
    step-at a 0 (vanishing xs) i ∙ ap₂ (λ (b c : ℕ). add b (mul a c)) (vanishing-past xs i (omega arith)) (vanishing-past xs (suc i) (omega arith)) ∙ sym (add_none 0 a)

vanishing-last : (xs : List ℕ) → get_or (vanishing xs) (length xs) 0 ≡ 1
vanishing-last [] = refl
vanishing-last (a ∷ xs) =
    step-at a 0 (vanishing xs) (length xs) ∙ ap₂ (λ (b c : ℕ). add b (mul a c)) (vanishing-last xs) (vanishing-past xs (suc (length xs)) (omega arith)) ∙ sym (add_none 1 a)

-- ---- a grid of products

-- the coefficients p_i q_j are those of P(X) Q(Y)
product : (g : Grid) (p q : List ℕ) → ((i j : ℕ) → entry g i j ≡ mul (get_or p i 0) (get_or q j 0)) → (x y : ℕ) → eval_grid g x y ≡ mul (eval p x) (eval q y)
product g p q e x y =
    eval-ext (at_y g y) (scale (eval q y) p) x (λ i. at_y-at g y i ∙ row i ∙ mul_comm (get_or p i 0) (eval q y) ∙ sym (scale_at (eval q y) p i))
    ∙ eval-scale (eval q y) p x ∙ mul_comm (eval q y) (eval p x)
  where
    row : (i : ℕ) → eval (get_or g i []) y ≡ mul (get_or p i 0) (eval q y)
    row i = eval-ext (get_or g i []) (scale (get_or p i 0) q) y (λ j. e i j ∙ sym (scale_at (get_or p i 0) q j)) ∙ eval-scale (get_or p i 0) q y

-- the products p_i p_j of k coefficients: those with one i, and all of them, by i, then by j
abbrev multiples : ℕ → List ℕ → ℕ → List ℕ
multiples k p i = tabulate k (λ j. mul (get_or p i 0) (get_or p j 0))

abbrev square : ℕ → List ℕ → List ℕ
square k p = join k (multiples k p)

module _ (k : ℕ) (p : List ℕ) where
  length-multiples : (i : ℕ) → i < k → length (multiples k p i) ≡ k
  length-multiples i h = length-tabulate k (λ j. mul (get_or p i 0) (get_or p j 0))

  length-square : length (square k p) ≡ k * k
  length-square = length-join k k (multiples k p) length-multiples

  square-at : (i j : ℕ) → i < k → j < k → get_or (square k p) (i * k + j) 0 ≡ mul (get_or p i 0) (get_or p j 0)
  square-at i j hi hj =
      sym (piece-at k i (square k p) j 0 hj) ∙ ap (λ (l : List ℕ). get_or l j 0) (piece-join k k (multiples k p) length-multiples i hi)
      ∙ tabulate-at k (λ j. mul (get_or p i 0) (get_or p j 0)) 0 j hj

  square-past : (t : ℕ) → k * k ≤ t → get_or (square k p) t 0 ≡ 0
  square-past t h = get_or-eq_default (square k p) 0 (omega (arith, length-square))

  square-bytes : Bytes (square k p)
  square-bytes = join-bytes k (multiples k p) (λ i h. tabulate-all (λ a. a < 256) k _ (λ j l. mul-lt (get_or p i 0) (get_or p j 0)))

-- a list filled up with 0 has the same elements
filled_at : (m : ℕ) (l : List ℕ) → length l ≤ m → (i : ℕ) → get_or (fit m l) i 0 ≡ get_or l i 0
filled_at m l h i = elim (dec_lt i m) [
  | yes a ↦ fit_at m l i a
  | no a ↦ get_or-eq_default (fit m l) 0 (omega (arith, length-fit m l)) ∙ sym (get_or-eq_default l 0 (omega arith))
]

-- a sum with 01 is another byte
sum-differs : (a b : ℕ) → b ≡ 1 → add a b ≢ a
sum-differs a b h e =
    let z : ◌≡◌ {A = ℕ} 1 0 = sym h ∙ sym (add_twice a b) ∙ ap (add a) e ∙ add-self a in
    omega arith

-- what holds of boards' points
all-points : (Q : ℕ → Type 0) (xs boards : List ℕ) → All Q (points xs boards) → All (λ i. Q (point xs i)) boards
all-points Q xs [] h = tt
all-points Q xs (i ∷ boards) h = (h.0, all-points Q xs boards h.1)

-- ---- the stripe whose group a are such products

module _ (z : Sizes) (legal : Legal z) where
  open z use {k, d, r}

  a-fits : k * k ≤ B z
  a-fits = omega (arith, B-parts z legal)

  -- F(x, y) = P(x) P(y)
  module _ (u p : List ℕ) (lu : length u ≡ B z) (high : (i : ℕ) → k ≤ i → get_or p i 0 ≡ 0)
      (group-a : (i j : ℕ) → i < k → j < k → get_or u (i * k + j) 0 ≡ mul (get_or p i 0) (get_or p j 0))
      (others : (t : ℕ) → k * k ≤ t → get_or u t 0 ≡ 0) where
    coefficients : (i j : ℕ) → entry (grid z u) i j ≡ mul (get_or p i 0) (get_or p j 0)
    coefficients i j = go (dec_lt i k) (dec_lt j k) (dec_lt i d) (dec_lt j (d + r))
      where
        right : k ≤ j → 0 ≡ mul (get_or p i 0) (get_or p j 0)
        right h = rw (high j h) (simp ring)

        left : k ≤ i → 0 ≡ mul (get_or p i 0) (get_or p j 0)
        left h = rw (high i h) (simp ring)

        wide : k * k ≤ k * (d + r)
        wide = mul-le-mul_left k (omega (arith, legal.read-helpers))

        go : Dec (i < k) → Dec (j < k) → Dec (i < d) → Dec (j < d + r) → entry (grid z u) i j ≡ mul (get_or p i 0) (get_or p j 0)
        go (yes a) (yes b) c e = entry-a z legal u lu i j a b ∙ group-a i j a b
        go (yes a) (no b) c (yes e) = entry-b z legal u lu i j a (omega arith) e ∙ others _ (omega arith) ∙ right (omega arith)
        go (yes a) (no b) c (no e) = entry-none z legal u lu i j (inr (inr (omega arith))) ∙ right (omega arith)
        go (no a) (yes b) (yes c) e = entry-c z legal u lu i j (omega arith) c b ∙ others _ (omega (arith, wide)) ∙ left (omega arith)
        go (no a) (yes b) (no c) e = entry-none z legal u lu i j (inr (inl (omega arith))) ∙ left (omega arith)
        go (no a) (no b) c e = entry-none z legal u lu i j (inl (omega arith, omega arith)) ∙ left (omega arith)

    F-product : (x y : ℕ) → F z u x y ≡ mul (eval p x) (eval p y)
    unfolding F
    F-product x y = product (grid z u) p p coefficients x y

  -- ---- the file of that stripe, then 00

  module _ (xs file boards : List ℕ) (long : k * k ≤ length file) (few : length boards < k) where
    abbrev P : List ℕ
    P = vanishing (points xs boards)

    abbrev added : List ℕ
    added = fit (length file) (square k P)

    added-at : (t : ℕ) → get_or added t 0 ≡ get_or (square k P) t 0
    added-at = filled_at (length file) (square k P) (omega (arith, length-square k P))

    -- its bytes from the end of group a on
    added-past : (s t : ℕ) → k * k ≤ s * B z + t → get_or (stripe z added s) t 0 ≡ 0
    added-past s t h = elim (dec_lt t (B z)) [
      | yes l ↦ stripe-place z added s t l ∙ added-at (s * B z + t) ∙ square-past k P (s * B z + t) h
      | no l ↦ get_or-eq_default (stripe z added s) 0 (omega (arith, length-stripe z added s))
    ]

    -- the first stripe has the products of P's coefficients, every other one is 00
    abbrev part : ℕ → List ℕ
    part zero = P
    part (suc s) = []

    added-F : (s x y : ℕ) → F z (stripe z added s) x y ≡ mul (eval (part s) x) (eval (part s) y)
    added-F zero x y =
        F-product (stripe z added 0) P (length-stripe z added 0) (λ i h. vanishing-past (points xs boards) i (omega (arith, length-points xs boards)))
        (λ i j hi hj. stripe-place z added 0 (i * k + j) (omega (arith, row_fits i k k hi, a-fits)) ∙ added-at (0 * B z + (i * k + j))
        ∙ ap (λ (t : ℕ). get_or (square k P) t 0) (omega arith) ∙ square-at k P i j hi hj)
        (λ t h. added-past 0 t (omega arith)) x y
    added-F (suc s) x y =
        F-product (stripe z added (suc s)) [] (length-stripe z added (suc s)) (λ i h. refl)
        (λ i j hi hj. added-past (suc s) (i * k + j) (omega (arith, suc-mul s (B z), a-fits)) ∙ simp ring) (λ t h. added-past (suc s) t (omega arith)) x y

    root : (s x : ℕ) → eval P x ≡ 0 → eval (part s) x ≡ 0
    root zero x h = h
    root (suc s) x h = refl

    -- ---- the other file

    abbrev other : List ℕ
    other = plus file added

    same_length : length file ≡ length added
    same_length = sym (length-fit (length file) (square k P))

    other-F : (s x y : ℕ) → mul (eval (part s) x) (eval (part s) y) ≡ 0 → F z (stripe z other s) x y ≡ F z (stripe z file s) x y
    other-F s x y h =
        ap (λ (u : List ℕ). F z u x y) (stripe-plus z legal file added s same_length)
        ∙ F-plus z legal (stripe z file s) (stripe z added s) (length-stripe z file s) (length-stripe z added s) x y
        ∙ ap (add (F z (stripe z file s) x y)) (added-F s x y ∙ h) ∙ add_zero_r (F z (stripe z file s) x y)

    module _ (i : ℕ) (h : eval P (point xs i) ≡ 0) where
      same_kept : (s : ℕ) → kept z xs (stripe z other s) i ≡ kept z xs (stripe z file s) i
      unfolding kept
      same_kept s =
          ap₂ (symbols z xs i)
          (fun_ext (λ y. other-F s (point xs i) y (rw (root s (point xs i) h) (zero-mul (eval (part s) y)))))
          (fun_ext (λ x. other-F s x (point xs i) (rw (root s (point xs i) h) (mul-zero (eval (part s) x)))))

      same-share : share z xs other i ≡ share z xs file i
      unfolding share
      same-share =
          ap (λ (m : ℕ). join (stripes z m) (λ s. kept z xs (stripe z other s) i)) (length-plus file added same_length)
          ∙ join-ext (stripes z (length file)) _ _ (λ s l. same_kept s)

    -- the byte of the last coefficient times itself
    differs : other ≢ file
    differs e =
        let m : ℕ = length boards in
        let t : ℕ = m * k + m in
        let one : get_or P m 0 ≡ 1 = ap (λ (m : ℕ). get_or P m 0) (sym (length-points xs boards)) ∙ vanishing-last (points xs boards) in
        let a : get_or added t 0 ≡ 1 = added-at t ∙ square-at k P m m few few ∙ ap₂ mul one one ∙ one-mul 1 (omega arith) in
        sum-differs (get_or file t 0) (get_or added t 0) a (sym (plus-at file added t) ∙ ap (λ (l : List ℕ). get_or l t 0) e)

    another : Bytes file → (other : List ℕ) × (length other ≡ length file) × Bytes other × (other ≢ file)
        × All (λ i. share z xs other i ≡ share z xs file i) boards
    another bf = (
      other,
      length-plus file added same_length,
      plus-bytes file added bf (fit-bytes (length file) (square k P) (square-bytes k P)),
      differs,
      all-imp _ _ same-share boards (all-points (λ x. eval P x ≡ 0) xs boards (vanishes (points xs boards))),
    )

pub tight : Tight
tight z xs ok pts file boards bf long named =
    let f = legal-facts z ok in
    another z f xs file boards (omega (arith, a-fits z f)) (omega (arith, f.some_read, named.0)) bf
