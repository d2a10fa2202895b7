-- Polynomials in X and Y: which coefficients the values at k points of each kind determine.
-- Assumes nothing.
use mathlib.Core.Path.{◌≡◌, refl, sym, ap, fun_ext, ◌∙◌}
use mathlib.Core.List.{List, [], ◌∷◌, map}
use Prim.Native.Nat.{ℕ, ◌<◌, ◌≤◌, ◌+◌}
use native.Mathlib.Omega.{arith}
use lib.ListN.{length, get_or, get_or-map, get_or-eq_default}
use native.Mathlib.Decide.{dec_lt}
use Rattle.lists.specs.Lists.{All, Bytes, fit}
use Rattle.lists.proofs.Alls.{Distinct, all-imp, all-at_d, byte_at}
use Rattle.gf256.specs.Field.{add, mul}
use Rattle.polynomial.specs.Polynomial.{eval, interpolate, scale, Grid, entry, column, at_x, at_y, eval_grid}
use Rattle.polynomial.proofs.Linear.{eval-plus, eval-scale, plus-at, scale_at, same-polynomial, interpolate-fit}

abbrev pub GridBytes : Grid → Type 0
GridBytes = All Bytes

pub column-at : (g : Grid) (i j : ℕ) → get_or (column g j) i 0 ≡ entry g i j
column-at g i j = get_or-map (λ row. get_or row j 0) g i []

pub column-bytes : (g : Grid) (j : ℕ) → GridBytes g → Bytes (column g j)
column-bytes [] j h = tt
column-bytes (row ∷ g) j h = (byte_at row h.0 j, column-bytes g j h.1)

-- k rows of d + r coefficients, then d - k rows of k
pub record Shape (k d r : ℕ) (g : Grid) : Type 0 where
  pub rows : length g ≡ d
  pub upper : (i : ℕ) → i < k → length (get_or g i []) ≡ d + r
  pub lower : (i : ℕ) → k ≤ i → i < d → length (get_or g i []) ≡ k
  pub bytes : GridBytes g

module _ (k d r : ℕ) (g : Grid) (s : Shape k d r g) where
  corner-zero : (i j : ℕ) → k ≤ i → k ≤ j → entry g i j ≡ 0
  corner-zero i j hi hj =
      elim (dec_lt i d) [
        | yes l ↦ get_or-eq_default (get_or g i []) 0 (omega (arith, s.lower i hi l))
        | no n ↦ ap (λ (row : List ℕ). get_or row j 0) (get_or-eq_default g [] (omega arith))
      ]

pub eval-at_x : (g : Grid) (x y : ℕ) → eval (at_x g x) y ≡ eval_grid g x y
eval-at_x [] x y = refl
eval-at_x (row ∷ g) x y =
    eval-plus row (scale x (at_x g x)) y
    ∙ ap (add (eval row y)) (eval-scale x (at_x g x) y ∙ ap (mul x) (eval-at_x g x y))

pub at_x-at : (g : Grid) (x j : ℕ) → get_or (at_x g x) j 0 ≡ eval (column g j) x
at_x-at [] x j = refl
at_x-at (row ∷ g) x j =
    plus-at row (scale x (at_x g x)) j
    ∙ ap (add (get_or row j 0)) (scale_at x (at_x g x) j ∙ ap (mul x) (at_x-at g x j))

pub at_y-at : (g : Grid) (y i : ℕ) → get_or (at_y g y) i 0 ≡ eval (get_or g i []) y
at_y-at g y i = get_or-map (λ row. eval row y) g i []

-- Two grids that agree at as many different X as are given, and as many different Y, agree in each coefficient,
-- if they do in those that lie past both counts.
module _ (g h : Grid) (xs ys : List ℕ) (bg : GridBytes g) (bh : GridBytes h)
    (bx : Bytes xs) (dx : Distinct xs) (by : Bytes ys) (dy : Distinct ys)
    (corner : (i j : ℕ) → length xs ≤ i → length ys ≤ j → entry g i j ≡ entry h i j)
    (onX : All (λ x. (j : ℕ) → get_or (at_x g x) j 0 ≡ get_or (at_x h x) j 0) xs)
    (onY : All (λ y. (i : ℕ) → get_or (at_y g y) i 0 ≡ get_or (at_y h y) i 0) ys) where
  high : (i j : ℕ) → length ys ≤ j → entry g i j ≡ entry h i j
  high i j l =
      sym (column-at g i j)
      ∙ same-polynomial (column g j) (column h j) xs (λ i k. column-at g i j ∙ corner i j k l ∙ sym (column-at h i j)) (column-bytes g j bg) (column-bytes h j bh) bx dx
      (all-imp _ _ (λ x e. sym (at_x-at g x j) ∙ e j ∙ at_x-at h x j) xs onX) i
      ∙ column-at h i j

  pub determined : (i j : ℕ) → entry g i j ≡ entry h i j
  determined i j =
      same-polynomial (get_or g i []) (get_or h i []) ys (λ j l. high i j l) (all-at_d Bytes [] g bg tt i) (all-at_d Bytes [] h bh tt i) by dy
      (all-imp _ _ (λ y e. sym (at_y-at g y i) ∙ e i ∙ at_y-at h y i) ys onY) j

-- k points of each kind determine a grid of k (2 d + r - k) coefficients
module _ (k d r : ℕ) (xs ys : List ℕ) (lx : length xs ≡ k) (ly : length ys ≡ k)
    (bx : Bytes xs) (dx : Distinct xs) (by : Bytes ys) (dy : Distinct ys) where
  -- the decoder: first the columns from k on, each from its values at the xs ..
  pub decode-high : (g : Grid) → Shape k d r g → (j : ℕ) → k ≤ j → interpolate xs (map (λ x. get_or (at_x g x) j 0) xs) ≡ fit (length xs) (column g j)
  decode-high g s j hj =
      ap (λ (f : ℕ → ℕ). interpolate xs (map f xs)) (fun_ext (λ x. at_x-at g x j))
      ∙ interpolate-fit (column g j) xs (λ i hi. column-at g i j ∙ corner-zero k d r g s i j (omega arith) hj) (column-bytes g j s.bytes) bx dx
