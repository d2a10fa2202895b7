-- Interpolation is linear in its values.
-- Assumes nothing.
use mathlib.Core.Path.{◌≡◌, refl, sym, ap, ap₂, ◌∙◌}
use mathlib.Core.Logic.{◌≢◌}
use mathlib.Core.Bool.{Bool, true, false}
use mathlib.Core.List.{List, [], ◌∷◌}
use Prim.Native.Nat.{ℕ, zero, suc, ◌+◌, ◌-◌, ◌<◌}
use native.Mathlib.Decide.{dec_lt}
use native.Mathlib.Omega.{arith}
use lib.Dec.{eqb}
use borrow.Author.Tests.{eq-eqb, ne_eqb}
use lib.ListN.{length, get_or, take, drop, length-append, length-drop, length-map, get_or-append}
use lib.Seq.{ext_get_or, length-take-le, get_or-take, get_or-drop, get_or-append-add}
use Rattle.lists.specs.Tests.{pick}
use Rattle.lists.specs.Lists.{All, Bytes}
use Rattle.lists.proofs.Alls.{Distinct, distinct-at, all_of, byte_at, take-alls, drop-alls, append-all}
use Rattle.lists.proofs.Boards.{distinct}
use Rattle.lists.proofs.Pieces.{length-tabulate, tabulate-at, tabulate-all, map_at}
use Rattle.gf256.specs.Field.{add, mul, inverse}
use Rattle.gf256.proofs.Field.{mul_comm, mul-zero, zero-mul, one-mul, mul-one, mul-lt}
use Rattle.gf256.proofs.Inverses.{mul-inverse}
use Rattle.gf256.proofs.Ring.{ring}
use Rattle.gf256.proofs.Sums.{add-self, add_zero_l, add_zero_r}
use Rattle.polynomial.specs.Polynomial.{eval, evals, interpolate, step, plus, scale, sum}
use Rattle.polynomial.proofs.Linear.{eval-plus, eval-scale, plus-bytes, scale-bytes, length-scale, length-plus}
use Rattle.polynomial.proofs.Poly.{add-byte, eval-step, interpolate-only, evals-interpolate, length-interpolate}
use Rattle.polynomial.proofs.Sums.{sum-ext}
use Rattle.lagrange.specs.Steps.{differences, others, weight, unit, total, LagrangeClaim}

-- ---- sums of lists

eval-total : (m : ℕ) (h : ℕ → List ℕ) (y : ℕ) → eval (total m h) y ≡ sum m (λ t. eval (h t) y)
eval-total zero h y = refl
eval-total (suc m) h y = eval-plus (h 0) (total m (λ t. h (suc t))) y ∙ ap (add (eval (h 0) y)) (eval-total m (λ t. h (suc t)) y)

total-bytes : (m : ℕ) (h : ℕ → List ℕ) → ((t : ℕ) → t < m → Bytes (h t)) → Bytes (total m h)
total-bytes zero h b = tt
total-bytes (suc m) h b = plus-bytes (h 0) (total m (λ t. h (suc t))) (b 0 (omega arith)) (total-bytes m (λ t. h (suc t)) (λ t l. b (suc t) (omega arith)))

plus_nil : (p : List ℕ) → plus p [] ≡ p
plus_nil [] = refl
plus_nil (c ∷ p) = refl

length-total : (m n : ℕ) (h : ℕ → List ℕ) → 0 < m → ((t : ℕ) → t < m → length (h t) ≡ n) → length (total m h) ≡ n
length-total zero n h z l = absurd (omega arith)
length-total (suc zero) n h z l = ap length (plus_nil (h 0)) ∙ l 0 (omega arith)
length-total (suc (suc m)) n h z l =
    let rest : length (total (suc m) (λ t. h (suc t))) ≡ n = length-total (suc m) n (λ t. h (suc t)) (omega arith) (λ t k. l (suc t) (omega arith)) in
    length-plus (h 0) (total (suc m) (λ t. h (suc t))) (l 0 (omega arith) ∙ sym rest) ∙ l 0 (omega arith)

-- a sum with one term
sum-zero : (m : ℕ) (f : ℕ → ℕ) → ((t : ℕ) → t < m → f t ≡ 0) → sum m f ≡ 0
sum-zero zero f h = refl
sum-zero (suc m) f h = ap₂ add (h 0 (omega arith)) (sum-zero m (λ t. f (suc t)) (λ t l. h (suc t) (omega arith))) ∙ add-self 0

sum_one : (m s : ℕ) (f : ℕ → ℕ) → s < m → ((t : ℕ) → t < m → t ≢ s → f t ≡ 0) → sum m f ≡ f s
sum_one zero s f l h = absurd (omega arith)
sum_one (suc m) zero f l h =
    ap (add (f 0)) (sum-zero m (λ t. f (suc t)) (λ t k. h (suc t) (omega arith) (λ e. omega arith))) ∙ add_zero_r (f 0)
sum_one (suc m) (suc s) f l h =
    ap₂ add (h 0 (omega arith) (λ e. omega arith)) (sum_one m s (λ t. f (suc t)) (omega arith) (λ t k n. h (suc t) (omega arith) (λ e. n (omega arith))))
    ∙ add_zero_l (f (suc s))

-- ---- any lists that are 1 at one of the points and 0 at the others

module _ (xs vs : List ℕ) (l : length xs ≡ length vs) (bx : Bytes xs) (bv : Bytes vs) (dx : Distinct xs)
    (h : ℕ → List ℕ) (lh : (t : ℕ) → t < length xs → length (h t) ≡ length xs)
    (own : (t : ℕ) → t < length xs → eval (h t) (get_or xs t 0) ≡ 1)
    (other : (s t : ℕ) → s < length xs → t < length xs → t ≢ s → eval (h t) (get_or xs s 0) ≡ 0) where
  abbrev m : ℕ
  m = length xs

  abbrev p : List ℕ
  p = total m (λ t. scale (get_or vs t 0) (h t))

  term : (s t : ℕ) → s < m → t < m → t ≢ s → eval (scale (get_or vs t 0) (h t)) (get_or xs s 0) ≡ 0
  term s t hs ht n = eval-scale (get_or vs t 0) (h t) (get_or xs s 0) ∙ ap (mul (get_or vs t 0)) (other s t hs ht n) ∙ mul-zero (get_or vs t 0)

  at-point : (s : ℕ) → s < m → eval p (get_or xs s 0) ≡ get_or vs s 0
  at-point s hs =
      eval-total m (λ t. scale (get_or vs t 0) (h t)) (get_or xs s 0)
      ∙ sum_one m s (λ t. eval (scale (get_or vs t 0) (h t)) (get_or xs s 0)) hs (λ t ht n. term s t hs ht n)
      ∙ eval-scale (get_or vs s 0) (h s) (get_or xs s 0) ∙ ap (mul (get_or vs s 0)) (own s hs) ∙ mul-one (get_or vs s 0) (byte_at vs bv s)

  values : evals p xs ≡ vs
  values =
      ext_get_or 0 (evals p xs) vs (length-map xs (λ x. eval p x) ∙ l)
      (λ s k. let hs : s < m = omega (arith, length-map xs (λ x. eval p x)) in map_at (λ x. eval p x) xs s hs ∙ at-point s hs)

  some : 0 < m → interpolate xs vs ≡ p
  some z =
      sym (interpolate-only p xs vs (length-total m m (λ t. scale (get_or vs t 0) (h t)) z (λ t k. length-scale (get_or vs t 0) (h t) ∙ lh t k))
      (total-bytes m (λ t. scale (get_or vs t 0) (h t)) (λ t k. scale-bytes (get_or vs t 0) (h t))) bx dx values)

  none : (ys : List ℕ) → ys ≡ xs → length ys ≡ 0 → interpolate xs vs ≡ p
  none [] e z = rw (← e) refl
  none (y ∷ ys) e z = absurd (omega arith)

  pub linear : interpolate xs vs ≡ p
  linear = elim (dec_lt 0 m) [ yes z ↦ some z | no z ↦ none xs refl (omega arith) ]

-- ---- products of differences

no-divisors : (a b : ℕ) → a ≢ 0 → a < 256 → b < 256 → mul a b ≡ 0 → b ≡ 0
no-divisors a b n la l e =
    let i : mul a (inverse a) ≡ 1 = mul-inverse a (omega arith) la in
    sym (one-mul b l) ∙ ap (λ (q : ℕ). mul q b) (sym i) ∙ law a (inverse a) b ∙ ap (mul (inverse a)) e ∙ mul-zero (inverse a)
  where
    law : (a c b : ℕ) → mul (mul a c) b ≡ mul c (mul a b)
    law a c b = simp ring

pub differences-byte : (ys : List ℕ) (y : ℕ) → differences ys y < 256
differences-byte [] y = omega arith
differences-byte (x ∷ ys) y = mul-lt (add y x) (differences ys y)

sum-ne : (y x : ℕ) → y ≢ x → add y x ≢ 0
sum-ne y x n e = n (law y x ∙ ap (λ (q : ℕ). add q x) e ∙ add_zero_l x)
  where
    law : (y x : ℕ) → y ≡ add (add y x) x
    law y x = simp ring

differences-ne : (ys : List ℕ) (y : ℕ) → y < 256 → Bytes ys → All (λ x. y ≢ x) ys → differences ys y ≢ 0
differences-ne [] y l b n e = omega arith
differences-ne (x ∷ ys) y l b n e =
    differences-ne ys y l b.1 n.1 (no-divisors (add y x) (differences ys y) (sum-ne y x n.0) (add-byte y x l b.0) (differences-byte ys y) e)

differences-zero : (ys : List ℕ) (y i : ℕ) → i < length ys → get_or ys i 0 ≡ y → differences ys y ≡ 0
differences-zero [] y i h e = absurd (omega arith)
differences-zero (x ∷ ys) y zero h e = ap (λ (q : ℕ). mul q (differences ys y)) (ap (add y) e ∙ add-self y) ∙ zero-mul (differences ys y)
differences-zero (x ∷ ys) y (suc i) h e = ap (mul (add y x)) (differences-zero ys y i (omega arith) e) ∙ mul-zero (add y x)

-- ---- the points but one

length-others : (xs : List ℕ) (t : ℕ) → t < length xs → suc (length (others xs t)) ≡ length xs
length-others xs t h =
    ap suc (length-append (take t xs) (drop (suc t) xs) ∙ ap₂ ◌+◌ (length-take-le t xs (omega arith)) (length-drop (suc t) xs)) ∙ omega arith

others-at : (xs : List ℕ) (s t : ℕ) → s < length xs → t < length xs → s < t → get_or (others xs t) s 0 ≡ get_or xs s 0
others-at xs s t hs ht l =
    get_or-append (take t xs) (drop (suc t) xs) 0 s (omega (arith, length-take-le t xs (omega arith))) ∙ get_or-take t xs s 0 l

others-past : (xs : List ℕ) (s t : ℕ) → s < length xs → t < length xs → t < s → get_or (others xs t) (s - 1) 0 ≡ get_or xs s 0
others-past xs s t hs ht l =
    let e : s - 1 ≡ t + (s - suc t) = omega arith in
    let q : suc t + (s - suc t) ≡ s = omega arith in
    ap (λ (i : ℕ). get_or (others xs t) i 0) e
    ∙ ap (λ (i : ℕ). get_or (others xs t) (i + (s - suc t)) 0) (sym (length-take-le t xs (omega arith)))
    ∙ get_or-append-add (take t xs) (drop (suc t) xs) (s - suc t) 0 ∙ get_or-drop (suc t) xs (s - suc t) 0 ∙ ap (λ (i : ℕ). get_or xs i 0) q

-- another point stands among them
zero-at : (xs : List ℕ) (s t : ℕ) → s < length xs → t < length xs → t ≢ s → differences (others xs t) (get_or xs s 0) ≡ 0
zero-at xs s t hs ht n =
    elim (dec_lt s t) [
      | yes l ↦ differences-zero (others xs t) (get_or xs s 0) s (omega (arith, length-others xs t ht)) (others-at xs s t hs ht l)
      | no l ↦
          let k : t < s = strict l in
          differences-zero (others xs t) (get_or xs s 0) (s - 1) (omega (arith, length-others xs t ht)) (others-past xs s t hs ht k)
    ]
  where
    strict : (s < t → ⊥) → t < s
    strict l = elim (dec_lt t s) [ yes a ↦ a | no b ↦ absurd (n (omega arith)) ]

others-all : (xs : List ℕ) (t : ℕ) → t < length xs → Distinct xs → All (λ x. get_or xs t 0 ≢ x) (others xs t)
others-all xs t ht dx =
    all_of (λ x. get_or xs t 0 ≢ x) 0 (others xs t)
    (λ i h. elim (dec_lt i t) [
      | yes l ↦ λ e. distinct-at xs dx i t l ht (e ∙ others-at xs i t (omega arith) ht l)
      | no l ↦
          let lo : suc (length (others xs t)) ≡ length xs = length-others xs t ht in
          let q : suc i - 1 ≡ i = omega arith in
          λ e. distinct-at xs dx t (suc i) (omega arith) (omega arith)
          (sym (e ∙ ap (λ (j : ℕ). get_or (others xs t) j 0) (sym q) ∙ others-past xs (suc i) t (omega arith) ht (omega arith)))
    ])

-- ---- Lagrange's polynomials

abbrev node : List ℕ → List ℕ
node [] = 1 ∷ []
node (a ∷ xs) = step a 0 (node xs)

eval-node : (xs : List ℕ) (y : ℕ) → eval (node xs) y ≡ differences xs y
eval-node [] y = simp ring
eval-node (a ∷ xs) y = eval-step a 0 (node xs) y ∙ add_zero_l _ ∙ ap (mul (add y a)) (eval-node xs y)

length-step : (a v : ℕ) (q : List ℕ) → length (step a v q) ≡ suc (length q)
length-step a v [] = refl
length-step a v (c ∷ q) = ap suc (length-step a c q)

length-node : (xs : List ℕ) → length (node xs) ≡ suc (length xs)
length-node [] = refl
length-node (a ∷ xs) = length-step a 0 (node xs) ∙ ap suc (length-node xs)

basis : List ℕ → ℕ → List ℕ
basis xs t = scale (inverse (differences (others xs t) (get_or xs t 0))) (node (others xs t))

eval-basis : (xs : List ℕ) (t y : ℕ) → eval (basis xs t) y ≡ weight xs t y
unfolding basis weight
eval-basis xs t y =
    eval-scale (inverse (differences (others xs t) (get_or xs t 0))) (node (others xs t)) y
    ∙ ap (mul (inverse (differences (others xs t) (get_or xs t 0)))) (eval-node (others xs t) y)

length-basis : (xs : List ℕ) (t : ℕ) → t < length xs → length (basis xs t) ≡ length xs
unfolding basis
length-basis xs t h = length-scale _ (node (others xs t)) ∙ length-node (others xs t) ∙ length-others xs t h

module _ (xs : List ℕ) (bx : Bytes xs) (dx : Distinct xs) where
  weight-own : (t : ℕ) → t < length xs → weight xs t (get_or xs t 0) ≡ 1
  unfolding weight
  weight-own t h =
      let D : ℕ = differences (others xs t) (get_or xs t 0) in
      let bo : Bytes (others xs t) = append-all (λ a. a < 256) (take t xs) (drop (suc t) xs) (take-alls (λ a. a < 256) t xs bx) (drop-alls (λ a. a < 256) (suc t) xs bx) in
      let n : D ≢ 0 = differences-ne (others xs t) (get_or xs t 0) (byte_at xs bx t) bo (others-all xs t h dx) in
      mul_comm (inverse D) D ∙ mul-inverse D (omega arith) (differences-byte (others xs t) (get_or xs t 0))

  weight-other : (s t : ℕ) → s < length xs → t < length xs → t ≢ s → weight xs t (get_or xs s 0) ≡ 0
  unfolding weight
  weight-other s t hs ht n = ap (mul (inverse (differences (others xs t) (get_or xs t 0)))) (zero-at xs s t hs ht n) ∙ mul-zero _

  module _ (vs : List ℕ) (l : length xs ≡ length vs) (bv : Bytes vs) where
    pub value-is : (y : ℕ) → eval (interpolate xs vs) y ≡ sum (length xs) (λ t. mul (get_or vs t 0) (weight xs t y))
    value-is y =
        ap (λ (p : List ℕ). eval p y)
        (linear xs vs l bx bv dx (basis xs) (length-basis xs) (λ t h. eval-basis xs t (get_or xs t 0) ∙ weight-own t h) (λ s t hs ht n. eval-basis xs t (get_or xs s 0) ∙ weight-other s t hs ht n))
        ∙ eval-total (length xs) (λ t. scale (get_or vs t 0) (basis xs t)) y
        ∙ sum-ext (length xs) _ _ (λ t. eval-scale (get_or vs t 0) (basis xs t) y ∙ ap (mul (get_or vs t 0)) (eval-basis xs t y))

    -- by the interpolations of the units
    unit-bytes : (m t : ℕ) → Bytes (unit m t)
    unit-bytes m t = tabulate-all (λ a. a < 256) m _ (λ s h. bit (eqb s t))
      where
        bit : (b : Bool) → pick b 1 0 < 256
        bit true = omega arith
        bit false = omega arith

    unit-value : (s t : ℕ) → s < length xs → t < length xs → eval (interpolate xs (unit (length xs) t)) (get_or xs s 0) ≡ pick (eqb s t) 1 0
    unit-value s t hs ht =
        let p : List ℕ = interpolate xs (unit (length xs) t) in
        sym (map_at (λ x. eval p x) xs s hs)
        ∙ ap (λ (q : List ℕ). get_or q s 0) (evals-interpolate xs (unit (length xs) t) (sym (length-tabulate (length xs) _)) (unit-bytes (length xs) t) bx dx)
        ∙ tabulate-at (length xs) (λ s. pick (eqb s t) 1 0) 0 s hs

    pub coefficients-are : interpolate xs vs ≡ total (length xs) (λ t. scale (get_or vs t 0) (interpolate xs (unit (length xs) t)))
    coefficients-are =
        linear xs vs l bx bv dx (λ t. interpolate xs (unit (length xs) t))
        (λ t h. length-interpolate xs (unit (length xs) t) (sym (length-tabulate (length xs) _)))
        (λ t h. unit-value t t h h ∙ ap (λ (b : Bool). pick b 1 0) (eq-eqb t t refl))
        (λ s t hs ht n. unit-value s t hs ht ∙ ap (λ (b : Bool). pick b 1 0) (ne_eqb s t (λ e. n (sym e))))

pub lagrange : LagrangeClaim
lagrange = record {
  value = λ xs vs y l bx bv dx. value-is xs bx (distinct xs dx) vs l bv y;
  coefficients = λ xs vs l bx bv dx. coefficients-are xs bx (distinct xs dx) vs l bv;
}
