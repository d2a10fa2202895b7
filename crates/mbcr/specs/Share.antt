-- Document 01, 'Field and sizes' and 'From stripe to share', in its order and letters. A quoted text in a comment is the document's.
-- `z` are the sizes n, k, d, r; `xs` the boards' points, of which the first n count. Request A.9, 'First-series robots': which points are taken.
-- Assumes nothing.
use Rattle.std.specs.Prelude.{◌≡◌, Bool, List, [], ◌∷◌, ◌++◌, map, ℕ, ◌+◌, ◌*◌, ◌-◌, ◌%◌, ◌<◌, ltb, eqb, length, get_or, take, drop}
use Rattle.lists.specs.Tests.{pick, every, alls, below, different}
use Rattle.lists.specs.Lists.{tabulate, join, joined, piece, fit}
use Rattle.sizes.specs.declared.Sizes.{Sizes}
use Rattle.sizes.specs.Sizing.{max_boards, B, stripes}
use Rattle.polynomial.specs.Polynomial.{Grid, eval_grid}

-- the point of board i, for both variables: x_i = y_i
abbrev pub point : List ℕ → ℕ → ℕ
point xs i = get_or xs i 0

-- the points of boards
abbrev pub points : List ℕ → List ℕ → List ℕ
points xs boards = map (point xs) boards

-- "The point of board i is the byte i, for both variables: x_i = y_i = i"; 00 from n up
abbrev pub standard : Sizes → List ℕ
standard z = tabulate max_boards (λ i. pick (ltb i z.n) i 0)

-- "a point for each board, n different bytes": an array of 32, with "00 kept for a number from n up"
unfoldable pub pointed : Sizes → List ℕ → Bool
pointed z xs = alls (eqb (length xs) max_boards ∷ below 256 xs ∷ different (take z.n xs) ∷ every (λ x. eqb x 0) (drop z.n xs) ∷ [])

-- the points of n boards are bytes, and those of two boards differ
pub record DifferentPoints (z : Sizes) (xs : List ℕ) : Type 0 where
  pub bytes : (i : ℕ) → i < z.n → point xs i < 256
  pub differ : (i j : ℕ) → i < z.n → j < z.n → point xs i ≡ point xs j → i ≡ j

module _ (z : Sizes) where
  open z use {n, k, d, r}

  -- stripe s of a file; "the last is filled up with 00"
  unfoldable pub stripe : List ℕ → ℕ → List ℕ
  stripe file s = fit (B z) (drop (s * B z) file)

  -- "a_ij of X^i Y^j for 0 ≤ i < k, 0 ≤ j < k; b_ij for 0 ≤ i < k, k ≤ j < d + r; c_ij for k ≤ i < d, 0 ≤ j < k;
  -- each group by i, then by j": row i has the coefficients of X^i. "All other coefficients are zero."
  unfoldable pub grid : List ℕ → Grid
  grid u =
      tabulate k (λ i. piece k i u ++ piece (d + r - k) i (drop (k * k) u))
      ++ tabulate (d - k) (λ i. piece k i (drop (k * k + k * (d + r - k)) u))

  -- F(x, y) of the stripe u
  unfoldable pub F : List ℕ → ℕ → ℕ → ℕ
  F u x y = eval_grid (grid u) x y

  -- the boards i, i + 1, .. , i + m − 1, "subscripts modulo n"
  unfoldable pub neighbours : ℕ → ℕ → List ℕ
  neighbours i m = tabulate m (λ t. (i + t) % n)

module _ (z : Sizes) (xs : List ℕ) where
  open z use {n, k, d, r}

  -- what board i keeps of functions f and g: f at its neighbours from i to i + d + r − 1, then g at those from i + 1 to i + d − 1
  unfoldable pub symbols : ℕ → (ℕ → ℕ) → (ℕ → ℕ) → List ℕ
  symbols i f g = map f (points xs (neighbours z i (d + r))) ++ map g (points xs (drop 1 (neighbours z i d)))

  -- "Board i keeps F(x_i, y_i), .. , F(x_i, y_(i+d+r−1)), then F(x_(i+1), y_i), .. , F(x_(i+d−1), y_i)", of the stripe u
  unfoldable pub kept : List ℕ → ℕ → List ℕ
  kept u i = symbols i (λ y. F z u (point xs i) y) (λ x. F z u x (point xs i))

  -- "A share is its stripes one after another"
  unfoldable pub share : List ℕ → ℕ → List ℕ
  share file i = join (stripes z (length file)) (λ s. kept (stripe z file s) i)

  -- the shares of boards, "in the order of their list"
  unfoldable pub shares : List ℕ → List ℕ → List ℕ
  shares file boards = joined (share file) boards
