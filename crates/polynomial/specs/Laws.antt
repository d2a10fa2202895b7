-- What holds of polynomials: the interpolation is the one polynomial through its points, and values are sums of coefficients times powers.
-- Assumes nothing.
use Rattle.std.specs.Prelude.{◌≡◌, true, ◌≢◌, ◌↔◌, List, [], ◌∷◌, ℕ, suc, ◌+◌, ◌≤◌, ◌<◌, max, length, get_or}
use Rattle.lists.specs.Tests.{different}
use Rattle.lists.specs.Lists.{All, Bytes}
use Rattle.gf256.specs.Field.{add, mul}
use Rattle.polynomial.specs.Polynomial.{eval, evals, step, stepped, slope, slopes, interpolate, plus, scale, sum, power, Grid, entry, column, at_y, at_x, eval_grid}

pub record PolynomialLaws : Type 0 where
  -- for different points: as many coefficients as points, the values given, and no other polynomial so
  pub interpolate-length : (xs vs : List ℕ) → length xs ≡ length vs → length (interpolate xs vs) ≡ length xs
  pub interpolate-bytes : (xs vs : List ℕ) → Bytes vs → Bytes (interpolate xs vs)
  pub interpolate-values : (xs vs : List ℕ) → length xs ≡ length vs → Bytes vs → Bytes xs → different xs ≡ true → evals (interpolate xs vs) xs ≡ vs
  pub interpolate-only : (p xs vs : List ℕ) → length p ≡ length xs → Bytes p → Bytes xs → different xs ≡ true → evals p xs ≡ vs → p ≡ interpolate xs vs
  -- p(x) is the sum of c_i x^i
  pub eval-sum : (p : List ℕ) (x : ℕ) → Bytes p → eval p x ≡ sum (length p) (λ i. mul (get_or p i 0) (power x i))
  -- F(x, y) is the sum of c_ij x^i y^j, over at least the rows and columns that the grid has
  pub grid-sum : (g : Grid) (x y m w : ℕ) → All Bytes g → length g ≤ m → All (λ row. length row ≤ w) g
      → eval_grid g x y ≡ sum m (λ i. sum w (λ j. mul (entry g i j) (mul (power x i) (power y j))))
  -- a value for each point, in the points' order
  pub evals-length : (p xs : List ℕ) → length (evals p xs) ≡ length xs
  pub evals-at : (p xs : List ℕ) (i : ℕ) → i < length xs → get_or (evals p xs) i 0 ≡ eval p (get_or xs i 0)
  -- v + (X - a) q(X), by coefficients
  pub step-length : (a v : ℕ) (q : List ℕ) → length (step a v q) ≡ suc (length q)
  pub step-at : (a v : ℕ) (q : List ℕ) (i : ℕ) → get_or (step a v q) i 0 ≡ add (get_or (v ∷ q) i 0) (mul a (get_or q i 0))
  -- the same of a list whose first element is v and the rest q
  pub stepped-length : (a : ℕ) (l : List ℕ) → length (stepped a l) ≡ length l
  pub stepped-at : (a : ℕ) (l : List ℕ) (i : ℕ) → get_or (stepped a l) i 0 ≡ add (get_or l i 0) (mul a (get_or l (suc i) 0))
  -- (w - v) / (y - a): times y - a it is w - v
  pub slope-is : (a v y w : ℕ) → a < 256 → v < 256 → y < 256 → w < 256 → y ≢ a → mul (add y a) (slope a v y w) ≡ add w v
  -- the divided differences, one for each point
  pub slopes-length : (a v : ℕ) (ys ws : List ℕ) → length ys ≡ length ws → length (slopes a v ys ws) ≡ length ys
  pub slopes-at : (a v : ℕ) (ys ws : List ℕ) (i : ℕ) → i < length ys → i < length ws → get_or (slopes a v ys ws) i 0 ≡ slope a v (get_or ys i 0) (get_or ws i 0)
  -- sums and multiples, by coefficients; what a polynomial lacks is 0
  pub plus-length : (p q : List ℕ) → length (plus p q) ≡ max (length p) (length q)
  pub plus-at : (p q : List ℕ) (i : ℕ) → get_or (plus p q) i 0 ≡ add (get_or p i 0) (get_or q i 0)
  pub scale-length : (k : ℕ) (p : List ℕ) → length (scale k p) ≡ length p
  pub scale_at : (k : ℕ) (p : List ℕ) (i : ℕ) → get_or (scale k p) i 0 ≡ mul k (get_or p i 0)
  -- f 0 + f 1 + .. + f n
  pub sum-none : (f : ℕ → ℕ) → sum 0 f ≡ 0
  pub sum-last : (n : ℕ) (f : ℕ → ℕ) → sum (suc n) f ≡ add (sum n f) (f n)
  -- powers: none, one, and as many as two numbers together
  pub power-none : (x : ℕ) → power x 0 ≡ 1
  pub power-one : (x : ℕ) → x < 256 → power x 1 ≡ x
  pub power-add : (x a b : ℕ) → power x (a + b) ≡ mul (power x a) (power x b)
  -- a polynomial in X and Y: the coefficients of Y^j; at a given Y, and at a given X, by coefficients,
  -- as many as the longest row has
  pub column-length : (g : Grid) (j : ℕ) → length (column g j) ≡ length g
  pub column-at : (g : Grid) (i j : ℕ) → get_or (column g j) i 0 ≡ entry g i j
  pub at-y-length : (g : Grid) (y : ℕ) → length (at_y g y) ≡ length g
  pub at-y-at : (g : Grid) (y i : ℕ) → get_or (at_y g y) i 0 ≡ eval (get_or g i []) y
  pub at-x-length : (g : Grid) (x w : ℕ) → (length (at_x g x) ≤ w) ↔ All (λ row. length row ≤ w) g
  pub at-x-at : (g : Grid) (x j : ℕ) → get_or (at_x g x) j 0 ≡ eval (column g j) x
