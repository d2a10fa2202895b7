-- Polynomials over the field of 256 elements: lists of coefficients, the lowest first. In X and Y: a row in Y for each power of X.
-- Assumes nothing.
use Rattle.std.specs.Prelude.{List, [], ◌∷◌, map, ℕ, zero, suc, get_or}
use Rattle.gf256.specs.Field.{add, mul, inverse}

-- p(x), by Horner
abbrev pub eval : List ℕ → ℕ → ℕ
eval [] x = 0
eval (c ∷ p) x = add c (mul x (eval p x))

-- the values of p at each point
abbrev pub evals : List ℕ → List ℕ → List ℕ
evals p xs = map (λ x. eval p x) xs

-- the coefficients of v + (X - a) q(X)
abbrev pub step : ℕ → ℕ → List ℕ → List ℕ
step a v [] = v ∷ []
step a v (c ∷ q) = add v (mul a c) ∷ step a c q

-- the same, of a list whose first element is the value v and the rest q
abbrev pub stepped : ℕ → List ℕ → List ℕ
stepped a [] = []
stepped a (v ∷ q) = step a v q

-- (w - v) / (y - a)
abbrev pub slope : ℕ → ℕ → ℕ → ℕ → ℕ
slope a v y w = mul (add w v) (inverse (add y a))

-- the divided differences against the point a and the value v
abbrev pub slopes : ℕ → ℕ → List ℕ → List ℕ → List ℕ
slopes a v [] ws = []
slopes a v (y ∷ ys) [] = []
slopes a v (y ∷ ys) (w ∷ ws) = slope a v y w ∷ slopes a v ys ws

-- the polynomial of degree below the number of points that has the values vs at the points xs, by Newton
abbrev pub interpolate : List ℕ → List ℕ → List ℕ
interpolate [] vs = []
interpolate (a ∷ xs) [] = []
interpolate (a ∷ xs) (v ∷ vs) = step a v (interpolate xs (slopes a v xs vs))

-- the sum: where one list is shorter, the other goes on
abbrev pub plus : List ℕ → List ℕ → List ℕ
plus [] q = q
plus (c ∷ p) [] = c ∷ p
plus (c ∷ p) (d ∷ q) = add c d ∷ plus p q

-- each coefficient times k
abbrev pub scale : ℕ → List ℕ → List ℕ
scale k [] = []
scale k (c ∷ p) = mul k c ∷ scale k p

-- f 0 + f 1 + .. + f (n − 1)
abbrev pub sum : ℕ → (ℕ → ℕ) → ℕ
sum zero f = 0
sum (suc n) f = add (f 0) (sum n (λ i. f (suc i)))

-- x to the power e; 00 to the power 0 is 01
abbrev pub power : ℕ → ℕ → ℕ
power x zero = 1
power x (suc e) = mul x (power x e)

-- a polynomial in X and Y: row i has the coefficients of X^i, by powers of Y; what a row lacks is 0
abbrev pub Grid : Type 0
Grid = List (List ℕ)

-- the coefficient of X^i Y^j
abbrev pub entry : Grid → ℕ → ℕ → ℕ
entry g i j = get_or (get_or g i []) j 0

-- the coefficients of Y^j, by powers of X
abbrev pub column : Grid → ℕ → List ℕ
column g j = map (λ row. get_or row j 0) g

-- the polynomial in X at a given Y
abbrev pub at_y : Grid → ℕ → List ℕ
at_y g y = map (λ row. eval row y) g

-- the polynomial in Y at a given X
abbrev pub at_x : Grid → ℕ → List ℕ
at_x [] x = []
at_x (row ∷ g) x = plus row (scale x (at_x g x))

-- F(x, y)
abbrev pub eval_grid : Grid → ℕ → ℕ → ℕ
eval_grid g x y = eval (at_y g y) x
