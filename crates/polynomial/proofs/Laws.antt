-- Polynomials have the laws of specs/Laws.antt.
-- Assumes nothing.
use mathlib.Core.Path.{◌≡◌, refl, sym, ap, ◌∙◌}
use mathlib.Core.List.{List, [], ◌∷◌}
use Prim.Native.Nat.{ℕ, zero, suc, ◌+◌, ◌≤◌, ◌<◌, max}
use native.Mathlib.Nat.{zero-add, suc-add}
use native.Mathlib.Omega.{arith}
use lib.ListN.{length, get_or, length-map}
use Rattle.lists.specs.Lists.{All}
use Rattle.lists.proofs.Boards.{distinct}
use Rattle.lists.proofs.Pieces.{map_at}
use Rattle.gf256.specs.Field.{add, mul}
use Rattle.gf256.proofs.Field.{mul_assoc, mul-lt, one-mul, mul-one}
use Rattle.gf256.proofs.Sums.{add_assoc, add_zero_l, add_zero_r}
use Rattle.polynomial.specs.Polynomial.{eval, step, stepped, slope, slopes, plus, scale, sum, power, Grid, at_x}
use Rattle.polynomial.specs.Laws.{PolynomialLaws}
use Rattle.polynomial.proofs.Poly.{length-interpolate, interpolate-bytes, evals-interpolate, interpolate-only, length-step, length-slopes, add_none, slope-back}
use Rattle.polynomial.proofs.Linear.{plus-at, scale_at, length-scale}
use Rattle.polynomial.proofs.Grid.{column-at, at_x-at, at_y-at}
use Rattle.polynomial.proofs.Sums.{eval-sum, grid-sum}

step-at : (a v : ℕ) (q : List ℕ) (i : ℕ) → get_or (step a v q) i 0 ≡ add (get_or (v ∷ q) i 0) (mul a (get_or q i 0))
step-at a v [] zero = sym (add_none v a)
step-at a v [] (suc i) = sym (add_none 0 a)
step-at a v (c ∷ q) zero = refl
step-at a v (c ∷ q) (suc i) = step-at a c q i

stepped-length : (a : ℕ) (l : List ℕ) → length (stepped a l) ≡ length l
stepped-length a [] = refl
stepped-length a (v ∷ q) = length-step a v q

stepped-at : (a : ℕ) (l : List ℕ) (i : ℕ) → get_or (stepped a l) i 0 ≡ add (get_or l i 0) (mul a (get_or l (suc i) 0))
stepped-at a [] i = sym (add_none 0 a)
stepped-at a (v ∷ q) i = step-at a v q i

slopes-at : (a v : ℕ) (ys ws : List ℕ) (i : ℕ) → i < length ys → i < length ws → get_or (slopes a v ys ws) i 0 ≡ slope a v (get_or ys i 0) (get_or ws i 0)
slopes-at a v [] ws i h k = absurd (omega arith)
slopes-at a v (y ∷ ys) [] i h k = absurd (omega arith)
slopes-at a v (y ∷ ys) (w ∷ ws) zero h k = refl
slopes-at a v (y ∷ ys) (w ∷ ws) (suc i) h k = slopes-at a v ys ws i (omega arith) (omega arith)

plus-length : (p q : List ℕ) → length (plus p q) ≡ max (length p) (length q)
plus-length [] q = omega arith
plus-length (c ∷ p) [] = omega arith
plus-length (c ∷ p) (d ∷ q) = omega (arith, plus-length p q)

sum-last : (n : ℕ) (f : ℕ → ℕ) → sum (suc n) f ≡ add (sum n f) (f n)
sum-last zero f = add_zero_r (f 0) ∙ sym (add_zero_l (f 0))
sum-last (suc n) f = ap (add (f 0)) (sum-last n (λ i. f (suc i))) ∙ sym (add_assoc (f 0) (sum n (λ i. f (suc i))) (f (suc n)))

power-byte : (x e : ℕ) → power x e < 256
power-byte x zero = omega arith
power-byte x (suc e) = mul-lt x (power x e)

power-add : (x a b : ℕ) → power x (a + b) ≡ mul (power x a) (power x b)
power-add x zero b = ap (power x) (zero-add b) ∙ sym (one-mul (power x b) (power-byte x b))
power-add x (suc a) b =
    ap (power x) (suc-add a b) ∙ ap (mul x) (power-add x a b) ∙ sym (mul_assoc x (power x a) (power x b))

at-x-rows : (g : Grid) (x w : ℕ) → length (at_x g x) ≤ w → All (λ row. length row ≤ w) g
at-x-rows [] x w h = tt
at-x-rows (row ∷ g) x w h =
    let e = plus-length row (scale x (at_x g x)) in
    let l = length-scale x (at_x g x) in
    (omega (arith, e, h), at-x-rows g x w (omega (arith, e, l, h)))

rows-at-x : (g : Grid) (x w : ℕ) → All (λ row. length row ≤ w) g → length (at_x g x) ≤ w
rows-at-x [] x w h = omega arith
rows-at-x (row ∷ g) x w h =
    omega (arith, plus-length row (scale x (at_x g x)), length-scale x (at_x g x), h.0, rows-at-x g x w h.1)

pub laws : PolynomialLaws
laws = record {
  interpolate-length = length-interpolate;
  interpolate-bytes = interpolate-bytes;
  interpolate-values = λ xs vs l bv bs d. evals-interpolate xs vs l bv bs (distinct xs d);
  interpolate-only = λ p xs vs l bp bs d e. interpolate-only p xs vs l bp bs (distinct xs d) e;
  eval-sum = λ p x b. eval-sum (length p) p x (omega arith) b;
  grid-sum = grid-sum;
  evals-length = λ p xs. length-map xs (eval p);
  evals-at = λ p. map_at (eval p);
  step-length = length-step;
  step-at = step-at;
  stepped-length = stepped-length;
  stepped-at = stepped-at;
  slope-is = λ a v y w ha hv hy hw h. slope-back a v y w h hy ha hw hv;
  slopes-length = λ a v ys ws h. sym (length-slopes a v ys ws h);
  slopes-at = slopes-at;
  plus-length = plus-length;
  plus-at = plus-at;
  scale-length = length-scale;
  scale_at = scale_at;
  sum-none = λ f. refl;
  sum-last = sum-last;
  power-none = λ x. refl;
  power-one = mul-one;
  power-add = power-add;
  column-length = λ g j. length-map g (λ row. get_or row j 0);
  column-at = column-at;
  at-y-length = λ g y. length-map g (λ row. eval row y);
  at-y-at = at_y-at;
  at-x-length = λ g x w. (at-x-rows g x w, rows-at-x g x w);
  at-x-at = at_x-at;
}
