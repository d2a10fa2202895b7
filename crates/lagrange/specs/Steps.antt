-- Lagrange's factors: what value t adds at y, and what it adds to each coefficient.
-- Assumes nothing.
use Rattle.std.specs.Prelude.{◌≡◌, true, List, [], ◌∷◌, ◌++◌, ℕ, zero, suc, eqb, length, get_or, take, drop}
use Rattle.lists.specs.Tests.{different, pick}
use Rattle.lists.specs.Lists.{Bytes, tabulate}
use Rattle.gf256.specs.Field.{add, mul, inverse}
use Rattle.polynomial.specs.Polynomial.{eval, interpolate, plus, scale, sum}

-- the product of y - x over the points xs
abbrev pub differences : List ℕ → ℕ → ℕ
differences [] y = 1
differences (x ∷ xs) y = mul (add y x) (differences xs y)

-- the points but the t-th
abbrev pub others : List ℕ → ℕ → List ℕ
others xs t = take t xs ++ drop (suc t) xs

-- the product of (y - x_s) / (x_t - x_s) over s other than t
unfoldable pub weight : List ℕ → ℕ → ℕ → ℕ
weight xs t y = mul (inverse (differences (others xs t) (get_or xs t 0))) (differences (others xs t) y)

-- 1 at place t, 0 elsewhere
abbrev pub unit : ℕ → ℕ → List ℕ
unit m t = tabulate m (λ s. pick (eqb s t) 1 0)

-- h 0 + h 1 + .. + h (m − 1)
abbrev pub total : ℕ → (ℕ → List ℕ) → List ℕ
total zero h = []
total (suc m) h = plus (h 0) (total m (λ t. h (suc t)))

-- interpolation is linear in its values
pub record LagrangeClaim : Type 0 where
  -- the value at any y
  pub value : (xs vs : List ℕ) (y : ℕ) → length xs ≡ length vs → Bytes xs → Bytes vs → different xs ≡ true
      → eval (interpolate xs vs) y ≡ sum (length xs) (λ t. mul (get_or vs t 0) (weight xs t y))
  -- the coefficients
  pub coefficients : (xs vs : List ℕ) → length xs ≡ length vs → Bytes xs → Bytes vs → different xs ≡ true
      → interpolate xs vs ≡ total (length xs) (λ t. scale (get_or vs t 0) (interpolate xs (unit (length xs) t)))
