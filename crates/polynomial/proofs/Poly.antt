-- Interpolation: a polynomial is the interpolation of its values, and an interpolation has the values it was made from.
-- Assumes nothing.
use mathlib.Core.Path.{◌≡◌, refl, sym, ap, ap₂, ◌∙◌}
use mathlib.Core.Logic.{◌≢◌}
use mathlib.Core.List.{List, [], ◌∷◌}
use Prim.Native.Nat.{ℕ, zero, suc, ◌<◌}
use native.Mathlib.Omega.{arith}
use lib.ListN.{length, get_or, drop}
use Rattle.lists.specs.Lists.{All, Bytes}
use Rattle.lists.proofs.Alls.{Distinct}
use Rattle.gf256.specs.Field.{add, mul, inverse}
use Rattle.gf256.proofs.Field.{mul_comm, mul_assoc, zero-mul, one-mul, mul-lt}
use Rattle.gf256.proofs.Inverses.{mul-inverse}
use Rattle.gf256.proofs.Ring.{ring}
use Rattle.gf256.proofs.Sums.{add-self, add_zero_l, add_zero_r, add-lt}
use Rattle.polynomial.specs.Polynomial.{eval, step, slope, slopes, interpolate, evals}

pub add-byte : (a b : ℕ) → a < 256 → b < 256 → add a b < 256
add-byte a b h k = add-lt h k

eval-step-law : (a v c e y : ℕ) → add (add v (mul a c)) (mul y (add c (mul (add y a) e))) ≡ add v (mul (add y a) (add c (mul y e)))
eval-step-law a v c e y = simp ring

pub eval-step : (a v : ℕ) (q : List ℕ) (y : ℕ) → eval (step a v q) y ≡ add v (mul (add y a) (eval q y))
eval-step a v [] y = simp ring
eval-step a v (c ∷ q) y = rw (eval-step a c q y) (eval-step-law a v c (eval q y) y)

-- what is left of c + X q(X) after division by X - a: the values at a of q and of its tails
abbrev pub quot : ℕ → List ℕ → List ℕ
quot a [] = []
quot a (c ∷ q) = eval (c ∷ q) a ∷ quot a q

pub add_none : (c a : ℕ) → add c (mul a 0) ≡ c
add_none c a = simp ring

add_back : (c e : ℕ) → add (add c e) e ≡ c
add_back c e = simp ring

pub step-quot : (a c : ℕ) (q : List ℕ) → step a (eval (c ∷ q) a) (quot a q) ≡ c ∷ q
step-quot a c [] = ap {B = List ℕ} (λ e. e ∷ []) (add_none c a)
step-quot a c (d ∷ q) = ap₂ {C = List ℕ} (λ e l. e ∷ l) (add_back c (mul a (eval (d ∷ q) a))) (step-quot a d q)

-- bytes and lengths
pub eval-byte : (p : List ℕ) (x : ℕ) → Bytes p → eval p x < 256
eval-byte [] x h = omega arith
eval-byte (c ∷ p) x h = add-byte c (mul x (eval p x)) h.0 (mul-lt x (eval p x))

pub evals-bytes : (p xs : List ℕ) → Bytes p → Bytes (evals p xs)
evals-bytes p [] h = tt
evals-bytes p (x ∷ xs) h = (eval-byte p x h, evals-bytes p xs h)

pub quot-bytes : (a : ℕ) (q : List ℕ) → Bytes q → Bytes (quot a q)
quot-bytes a [] h = tt
quot-bytes a (c ∷ q) h = (eval-byte (c ∷ q) a h, quot-bytes a q h.1)

step-bytes : (a v : ℕ) (q : List ℕ) → v < 256 → Bytes q → Bytes (step a v q)
step-bytes a v [] hv h = (hv, tt)
step-bytes a v (c ∷ q) hv h = (add-byte v (mul a c) hv (mul-lt a c), step-bytes a c q h.0 h.1)

slopes-bytes : (a v : ℕ) (ys ws : List ℕ) → Bytes (slopes a v ys ws)
slopes-bytes a v [] ws = tt
slopes-bytes a v (y ∷ ys) [] = tt
slopes-bytes a v (y ∷ ys) (w ∷ ws) = (mul-lt (add w v) (inverse (add y a)), slopes-bytes a v ys ws)

pub interpolate-bytes : (xs vs : List ℕ) → Bytes vs → Bytes (interpolate xs vs)
interpolate-bytes [] vs h = tt
interpolate-bytes (a ∷ xs) [] h = tt
interpolate-bytes (a ∷ xs) (v ∷ vs) h =
    step-bytes a v (interpolate xs (slopes a v xs vs)) h.0
    (interpolate-bytes xs (slopes a v xs vs) (slopes-bytes a v xs vs))

length-quot : (a : ℕ) (q : List ℕ) → length (quot a q) ≡ length q
length-quot a [] = refl
length-quot a (c ∷ q) = ap suc (length-quot a q)

pub length-step : (a v : ℕ) (q : List ℕ) → length (step a v q) ≡ suc (length q)
length-step a v [] = refl
length-step a v (c ∷ q) = ap suc (length-step a c q)

pub length-slopes : (a v : ℕ) (ys ws : List ℕ) → length ys ≡ length ws → length ys ≡ length (slopes a v ys ws)
length-slopes a v [] ws h = refl
length-slopes a v (y ∷ ys) [] h = absurd (omega arith)
length-slopes a v (y ∷ ys) (w ∷ ws) h = ap suc (length-slopes a v ys ws (omega arith))

pub length-interpolate : (xs vs : List ℕ) → length xs ≡ length vs → length (interpolate xs vs) ≡ length xs
length-interpolate [] vs h = refl
length-interpolate (a ∷ xs) [] h = absurd (omega arith)
length-interpolate (a ∷ xs) (v ∷ vs) h =
    length-step a v (interpolate xs (slopes a v xs vs))
    ∙ ap suc (length-interpolate xs (slopes a v xs vs) (length-slopes a v xs vs (omega arith)))

-- a sum of two different bytes has an inverse
add-ne : (y a : ℕ) → y ≢ a → add y a ≢ 0
add-ne y a h e = h (sym (add_back y a) ∙ rw e (add_zero_l a))

over : (y a e : ℕ) → y ≢ a → y < 256 → a < 256 → e < 256 → mul (mul (add y a) e) (inverse (add y a)) ≡ e
over y a e h hy ha he =
    let n : add y a ≢ 0 = add-ne y a h in
    let i : mul (add y a) (inverse (add y a)) ≡ 1 = mul-inverse (add y a) (omega arith) (add-byte y a hy ha) in
    over-law (add y a) (inverse (add y a)) e i ∙ one-mul e he
  where
    over-law : (d n e : ℕ) → mul d n ≡ 1 → mul (mul d e) n ≡ mul 1 e
    over-law d n e i = cc (mul_assoc d e n, mul_comm e n, mul_assoc d n e)

-- (y - a) ((w - v) / (y - a)) = w - v
pub slope-back : (a v y w : ℕ) → y ≢ a → y < 256 → a < 256 → w < 256 → v < 256 → mul (add y a) (slope a v y w) ≡ add w v
slope-back a v y w h hy ha hw hv =
    sym (mul_assoc (add y a) (add w v) (inverse (add y a))) ∙ over y a (add w v) h hy ha (add-byte w v hw hv)

-- an interpolated point: v + (y - a) ((w - v) / (y - a)) = w
back : (a v y w : ℕ) → y ≢ a → y < 256 → a < 256 → w < 256 → v < 256 → add v (mul (add y a) (slope a v y w)) ≡ w
back a v y w h hy ha hw hv =
    ap (add v) (slope-back a v y w h hy ha hw hv) ∙ back-law v w
  where
    back-law : (v w : ℕ) → add v (add w v) ≡ w
    back-law v w = simp ring

-- the divided difference of a polynomial is the value of its quotient
slope-eval : (a c : ℕ) (q : List ℕ) (y : ℕ) → Bytes q → y ≢ a → y < 256 → a < 256 → slope a (eval (c ∷ q) a) y (eval (c ∷ q) y) ≡ eval (quot a q) y
slope-eval a c q y hq h hy ha =
    let v : ℕ = eval (c ∷ q) a in
    let d : eval (c ∷ q) y ≡ add v (mul (add y a) (eval (quot a q) y)) = ap (λ (l : List ℕ). eval l y) (sym (step-quot a c q)) ∙ eval-step a v (quot a q) y in
    ap (λ (w : ℕ). slope a v y w) d
    ∙ ap (λ (w : ℕ). mul w (inverse (add y a))) (law v (mul (add y a) (eval (quot a q) y)))
    ∙ over y a (eval (quot a q) y) h hy ha (eval-byte (quot a q) y (quot-bytes a q hq))
  where
    law : (v e : ℕ) → add (add v e) v ≡ e
    law v e = simp ring

slopes-evals : (a c : ℕ) (q ys : List ℕ) → Bytes q → a < 256 → Bytes ys → All (λ y. y ≢ a) ys
    → slopes a (eval (c ∷ q) a) ys (evals (c ∷ q) ys) ≡ evals (quot a q) ys
slopes-evals a c q [] hq ha hs h = refl
slopes-evals a c q (y ∷ ys) hq ha hs h =
    ap₂ {C = List ℕ} (λ e l. e ∷ l) (slope-eval a c q y hq h.0 hs.0 ha) (slopes-evals a c q ys hq ha hs.1 h.1)

-- a polynomial is the interpolation of its values
pub interpolate-evals : (p xs : List ℕ) → length p ≡ length xs → Bytes p → Bytes xs → Distinct xs → interpolate xs (evals p xs) ≡ p
interpolate-evals [] [] l hp hs h = refl
interpolate-evals [] (a ∷ ys) l hp hs h = absurd (omega arith)
interpolate-evals (c ∷ q) [] l hp hs h = absurd (omega arith)
interpolate-evals (c ∷ q) (a ∷ ys) l hp hs h =
    ap (λ (ws : List ℕ). step a (eval (c ∷ q) a) (interpolate ys ws)) (slopes-evals a c q ys hp.1 hs.0 hs.1 h.0)
    ∙ ap (step a (eval (c ∷ q) a)) (interpolate-evals (quot a q) ys (length-quot a q ∙ omega arith) (quot-bytes a q hp.1) hs.1 h.1)
    ∙ step-quot a c q

pub unique : (p q xs : List ℕ) → length p ≡ length xs → length q ≡ length xs → Bytes p → Bytes q → Bytes xs → Distinct xs
    → evals p xs ≡ evals q xs → p ≡ q
unique p q xs lp lq hp hq hs h e =
    sym (interpolate-evals p xs lp hp hs h) ∙ ap (interpolate xs) e ∙ interpolate-evals q xs lq hq hs h

-- the interpolation is the only polynomial of its length that has these values
pub interpolate-only : (p xs vs : List ℕ) → length p ≡ length xs → Bytes p → Bytes xs → Distinct xs → evals p xs ≡ vs → p ≡ interpolate xs vs
interpolate-only p xs vs l hp hs h e = sym (interpolate-evals p xs l hp hs h) ∙ ap (interpolate xs) e

-- the interpolation of values has these values
values : ℕ → ℕ → List ℕ → List ℕ → List ℕ
values a v [] es = []
values a v (y ∷ ys) [] = []
values a v (y ∷ ys) (e ∷ es) = add v (mul (add y a) e) ∷ values a v ys es

evals-step : (a v : ℕ) (q ys : List ℕ) → evals (step a v q) ys ≡ values a v ys (evals q ys)
unfolding values
evals-step a v q [] = refl
evals-step a v q (y ∷ ys) = ap₂ {C = List ℕ} (λ e l. e ∷ l) (eval-step a v q y) (evals-step a v q ys)

values-slopes : (a v : ℕ) (ys ws : List ℕ) → length ys ≡ length ws → v < 256 → Bytes ws → a < 256 → Bytes ys → All (λ y. y ≢ a) ys
    → values a v ys (slopes a v ys ws) ≡ ws
unfolding values
values-slopes a v [] [] l hv hw ha hs h = refl
values-slopes a v [] (w ∷ ws) l hv hw ha hs h = absurd (omega arith)
values-slopes a v (y ∷ ys) [] l hv hw ha hs h = absurd (omega arith)
values-slopes a v (y ∷ ys) (w ∷ ws) l hv hw ha hs h =
    ap₂ {C = List ℕ} (λ e l. e ∷ l) (back a v y w h.0 hs.0 ha hw.0 hv)
    (values-slopes a v ys ws (omega arith) hv hw.1 ha hs.1 h.1)

eval-step-at : (a v : ℕ) (q : List ℕ) → eval (step a v q) a ≡ v
eval-step-at a v q = eval-step a v q a ∙ law v a (eval q a)
  where
    law : (v a e : ℕ) → add v (mul (add a a) e) ≡ v
    law v a e = rw (add-self, zero-mul, add_zero_r)

pub evals-interpolate : (xs vs : List ℕ) → length xs ≡ length vs → Bytes vs → Bytes xs → Distinct xs → evals (interpolate xs vs) xs ≡ vs
evals-interpolate [] [] l hv hs h = refl
evals-interpolate [] (v ∷ vs) l hv hs h = absurd (omega arith)
evals-interpolate (a ∷ ys) [] l hv hs h = absurd (omega arith)
evals-interpolate (a ∷ ys) (v ∷ ws) l hv hs h =
    let k : length ys ≡ length ws = omega arith in
    ap₂ {C = List ℕ} (λ e l. e ∷ l) (eval-step-at a v (interpolate ys (slopes a v ys ws)))
    (evals-step a v (interpolate ys (slopes a v ys ws)) ys
    ∙ ap (values a v ys) (evals-interpolate ys (slopes a v ys ws) (length-slopes a v ys ws k) (slopes-bytes a v ys ws) hs.1 h.1)
    ∙ values-slopes a v ys ws k hv.0 hv.1 hs.0 hs.1 h.0)

-- a step of Horner's loop from the end, also past it
pub eval-drop : (p : List ℕ) (i x : ℕ) → eval (drop i p) x ≡ add (get_or p i 0) (mul x (eval (drop (suc i) p) x))
eval-drop [] zero x = sym (add_none 0 x)
eval-drop [] (suc i) x = sym (add_none 0 x)
eval-drop (c ∷ p) zero x = refl
eval-drop (c ∷ p) (suc i) x = eval-drop p i x
