-- Sums and multiples of polynomials; a polynomial is determined by its values at as many points as it has unknown coefficients.
-- Assumes nothing.
use mathlib.Core.Path.{◌≡◌, refl, sym, ap, ap₂, fun_ext, ◌∙◌}
use native.Mathlib.Decide.{dec_lt}
use mathlib.Core.List.{List, [], ◌∷◌, map}
use Prim.Native.Nat.{ℕ, zero, suc, ◌<◌, ◌≤◌}
use native.Mathlib.Omega.{arith}
use lib.ListN.{length, get_or}
use Rattle.lists.specs.Lists.{All, Bytes, fit}
use Rattle.lists.proofs.Alls.{Distinct, all-imp}
use Rattle.lists.proofs.Pieces.{length-fit, fit-bytes}
use Rattle.gf256.specs.Field.{add, mul}
use Rattle.gf256.proofs.Field.{mul-lt}
use Rattle.gf256.proofs.Ring.{ring}
use Rattle.polynomial.specs.Polynomial.{eval, evals, interpolate, plus, scale}
use Rattle.polynomial.proofs.Poly.{add-byte, unique, interpolate-evals}

none-add : (a : ℕ) → a ≡ add 0 a
none-add a = simp ring

add_none : (a : ℕ) → a ≡ add a 0
add_none a = simp ring

none-mul : (a : ℕ) → 0 ≡ mul a 0
none-mul a = simp ring

plus-law : (c d x e f : ℕ) → add (add c d) (mul x (add e f)) ≡ add (add c (mul x e)) (add d (mul x f))
plus-law c d x e f = simp ring

scale-law : (k c x e : ℕ) → add (mul k c) (mul x (mul k e)) ≡ mul k (add c (mul x e))
scale-law k c x e = simp ring

pub eval-plus : (p q : List ℕ) (x : ℕ) → eval (plus p q) x ≡ add (eval p x) (eval q x)
eval-plus [] q x = none-add (eval q x)
eval-plus (c ∷ p) [] x = add_none (eval (c ∷ p) x)
eval-plus (c ∷ p) (d ∷ q) x = ap (λ (e : ℕ). add (add c d) (mul x e)) (eval-plus p q x) ∙ plus-law c d x (eval p x) (eval q x)

pub eval-scale : (k : ℕ) (p : List ℕ) (x : ℕ) → eval (scale k p) x ≡ mul k (eval p x)
eval-scale k [] x = none-mul k
eval-scale k (c ∷ p) x = ap (λ (e : ℕ). add (mul k c) (mul x e)) (eval-scale k p x) ∙ scale-law k c x (eval p x)

pub plus-at : (p q : List ℕ) (i : ℕ) → get_or (plus p q) i 0 ≡ add (get_or p i 0) (get_or q i 0)
plus-at [] q i = none-add (get_or q i 0)
plus-at (c ∷ p) [] i = add_none (get_or (c ∷ p) i 0)
plus-at (c ∷ p) (d ∷ q) zero = refl
plus-at (c ∷ p) (d ∷ q) (suc i) = plus-at p q i

pub scale_at : (k : ℕ) (p : List ℕ) (i : ℕ) → get_or (scale k p) i 0 ≡ mul k (get_or p i 0)
scale_at k [] i = none-mul k
scale_at k (c ∷ p) zero = refl
scale_at k (c ∷ p) (suc i) = scale_at k p i

pub plus-bytes : (p q : List ℕ) → Bytes p → Bytes q → Bytes (plus p q)
plus-bytes [] q hp hq = hq
plus-bytes (c ∷ p) [] hp hq = hp
plus-bytes (c ∷ p) (d ∷ q) hp hq = (add-byte c d hp.0 hq.0, plus-bytes p q hp.1 hq.1)

pub scale-bytes : (k : ℕ) (p : List ℕ) → Bytes (scale k p)
scale-bytes k [] = tt
scale-bytes k (c ∷ p) = (mul-lt k c, scale-bytes k p)

pub length-scale : (k : ℕ) (p : List ℕ) → length (scale k p) ≡ length p
length-scale k [] = refl
length-scale k (c ∷ p) = ap suc (length-scale k p)

pub length-plus : (p q : List ℕ) → length p ≡ length q → length (plus p q) ≡ length p
length-plus [] q h = sym h
length-plus (c ∷ p) [] h = refl
length-plus (c ∷ p) (d ∷ q) h = ap suc (length-plus p q (omega arith))

zero-step : (c x e : ℕ) → c ≡ 0 → e ≡ 0 → add c (mul x e) ≡ 0
zero-step c x e hc he = rw (hc, he) (simp ring)

pub eval-zero : (p : List ℕ) (x : ℕ) → ((i : ℕ) → get_or p i 0 ≡ 0) → eval p x ≡ 0
eval-zero [] x h = refl
eval-zero (c ∷ p) x h = zero-step c x (eval p x) (h zero) (eval-zero p x (λ i. h (suc i)))

pub eval-fit : (m : ℕ) (p : List ℕ) (x : ℕ) → ((i : ℕ) → m ≤ i → get_or p i 0 ≡ 0) → eval (fit m p) x ≡ eval p x
eval-fit zero p x h = sym (eval-zero p x (λ i. h i (omega arith)))
eval-fit (suc m) [] x h = zero-step 0 x (eval (fit m []) x) refl (eval-fit m [] x (λ i l. refl))
eval-fit (suc m) (c ∷ p) x h = ap (λ (e : ℕ). add c (mul x e)) (eval-fit m p x (λ i l. h (suc i) (omega arith)))

fit-zero : (m : ℕ) (p : List ℕ) → fit m p ≡ fit m [] → (i : ℕ) → i < m → get_or p i 0 ≡ 0
fit-zero zero p e i l = absurd (omega arith)
fit-zero (suc m) [] e i l = refl
fit-zero (suc m) (c ∷ p) e zero l = ap (λ (t : List ℕ). get_or t 0 0) e
fit-zero (suc m) (c ∷ p) e (suc i) l = fit-zero m p (ap (λ (t : List ℕ). tail t) e) i (omega arith)
  where
    tail : List ℕ → List ℕ
    tail [] = []
    tail (x ∷ xs) = xs

pub evals-ext : (p q xs : List ℕ) → All (λ x. eval p x ≡ eval q x) xs → evals p xs ≡ evals q xs
evals-ext p q [] h = refl
evals-ext p q (x ∷ xs) h = ap₂ {C = List ℕ} (λ e l. e ∷ l) h.0 (evals-ext p q xs h.1)

-- the roots theorem: m different roots, and no coefficient past the first m
pub roots : (p xs : List ℕ) → ((i : ℕ) → length xs ≤ i → get_or p i 0 ≡ 0) → Bytes p → Bytes xs → Distinct xs
    → All (λ x. eval p x ≡ 0) xs → (i : ℕ) → get_or p i 0 ≡ 0
roots p xs high hp hs hd z i = elim (dec_lt i (length xs)) [ yes l ↦ fit-zero m p e i l | no n ↦ high i (omega arith) ]
  where
    m : ℕ
    m = length xs

    none : (x : ℕ) → eval p x ≡ 0 → eval (fit m p) x ≡ eval (fit m []) x
    none x h = eval-fit m p x high ∙ h ∙ sym (eval-fit m [] x (λ i l. refl))

    e : fit m p ≡ fit m []
    e = unique (fit m p) (fit m []) xs (length-fit m p) (length-fit m []) (fit-bytes m p hp) (fit-bytes m [] tt) hs hd
        (evals-ext (fit m p) (fit m []) xs (all-imp _ _ none xs z))

-- two polynomials that agree at m different points, and in the coefficients past the first m, agree in all
pub same-polynomial : (p q xs : List ℕ) → ((i : ℕ) → length xs ≤ i → get_or p i 0 ≡ get_or q i 0) → Bytes p → Bytes q → Bytes xs → Distinct xs
    → All (λ x. eval p x ≡ eval q x) xs → (i : ℕ) → get_or p i 0 ≡ get_or q i 0
same-polynomial p q xs high hp hq hs hd z i =
    eq (get_or p i 0) (get_or q i 0)
    (sym (plus-at p q i)
    ∙ roots (plus p q) xs (λ j l. plus-at p q j ∙ zero (get_or p j 0) (get_or q j 0) (high j l)) (plus-bytes p q hp hq) hs hd
    (all-imp _ _ (λ x h. eval-plus p q x ∙ zero (eval p x) (eval q x) h) xs z) i)
  where
    zero : (a b : ℕ) → a ≡ b → add a b ≡ 0
    zero a b h = rw h (simp ring)

    eq : (a b : ℕ) → add a b ≡ 0 → a ≡ b
    eq a b h = none-add a ∙ rw (← h) (law a b)
      where
        law : (a b : ℕ) → add (add a b) a ≡ b
        law a b = simp ring

-- What a decoder computes. From values at m points: the first m coefficients, where the others are zero ..
pub interpolate-fit : (p xs : List ℕ) → ((i : ℕ) → length xs ≤ i → get_or p i 0 ≡ 0) → Bytes p → Bytes xs → Distinct xs
    → interpolate xs (evals p xs) ≡ fit (length xs) p
interpolate-fit p xs high hp hs hd =
    ap (λ (f : ℕ → ℕ). interpolate xs (map f xs)) (fun_ext (λ x. sym (eval-fit (length xs) p x high)))
    ∙ interpolate-evals (fit (length xs) p) xs (length-fit (length xs) p) (fit-bytes (length xs) p hp) hs hd

-- .. and where the others are known: p with its first m coefficients taken for zero
abbrev pub above : ℕ → List ℕ → List ℕ
above zero p = p
above (suc m) [] = []
above (suc m) (c ∷ p) = 0 ∷ above m p

eval-split-law : (c x e f : ℕ) → add c (mul x (add e f)) ≡ add (add c (mul x e)) (add 0 (mul x f))
eval-split-law c x e f = simp ring

eval-split : (m : ℕ) (p : List ℕ) (x : ℕ) → eval p x ≡ add (eval (fit m p) x) (eval (above m p) x)
eval-split zero p x = none-add (eval p x)
eval-split (suc m) [] x = sym (zero-step 0 x (eval (fit m []) x) refl (eval-fit m [] x (λ i l. refl))) ∙ add_none _
eval-split (suc m) (c ∷ p) x =
    ap (λ (e : ℕ). add c (mul x e)) (eval-split m p x) ∙ eval-split-law c x (eval (fit m p) x) (eval (above m p) x)

eval-low : (m : ℕ) (p : List ℕ) (x : ℕ) → add (eval p x) (eval (above m p) x) ≡ eval (fit m p) x
eval-low m p x = ap (λ (e : ℕ). add e (eval (above m p) x)) (eval-split m p x) ∙ law (eval (fit m p) x) (eval (above m p) x)
  where
    law : (a b : ℕ) → add (add a b) b ≡ a
    law a b = simp ring

pub interpolate-low : (p xs : List ℕ) → Bytes p → Bytes xs → Distinct xs
    → interpolate xs (map (λ x. add (eval p x) (eval (above (length xs) p) x)) xs) ≡ fit (length xs) p
interpolate-low p xs hp hs hd =
    ap (λ (f : ℕ → ℕ). interpolate xs (map f xs)) (fun_ext (eval-low (length xs) p))
    ∙ interpolate-evals (fit (length xs) p) xs (length-fit (length xs) p) (fit-bytes (length xs) p hp) hs hd
