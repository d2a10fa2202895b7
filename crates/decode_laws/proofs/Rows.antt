-- Rows of 32 bytes: the sum of rows of coefficients, each times a value, is the row of the polynomial through the values.
-- Assumes nothing.
use mathlib.Core.Path.{◌≡◌, refl, sym, ap, ap₂, ◌∙◌}
use mathlib.Core.List.{List, [], ◌∷◌}
use Prim.Native.Nat.{ℕ, zero, suc, ◌+◌, ◌*◌, ◌<◌}
use lib.ListN.{length, get_or}
use Rattle.lists.specs.Lists.{Bytes, tabulate, join, fit}
use Rattle.lists.proofs.Alls.{Distinct}
use Rattle.lists.proofs.Pieces.{length-tabulate, tabulate-at, tabulate-ext, piece-at, piece-join, fit_at, length-fit}
use Rattle.gf256.specs.Field.{add, mul}
use Rattle.polynomial.specs.Polynomial.{interpolate, scale, sum}
use Rattle.polynomial.proofs.Linear.{plus-at, scale_at}
use Rattle.polynomial.proofs.Sums.{sum-ext}
use Rattle.lagrange.specs.Steps.{unit, total}
use Rattle.lagrange.proofs.Lagrange.{coefficients-are}
use Rattle.decode_laws.specs.Steps.{cell, sums, unit_rows}
use Rattle.decode_laws.proofs.Sums.{sum_below}

-- byte j of piece i
pub join-at : (n w : ℕ) (f : ℕ → List ℕ) → ((i : ℕ) → i < n → length (f i) ≡ w) → (i j : ℕ) → i < n → j < w → get_or (join n f) (i * w + j) 0 ≡ get_or (f i) j 0
join-at n w f l i j hi hj = sym (piece-at w i (join n f) j 0 hj) ∙ ap (λ (p : List ℕ). get_or p j 0) (piece-join n w f l i hi)

-- of rows that are filled up
pub cell-fit : (n : ℕ) (f : ℕ → List ℕ) (i j : ℕ) → i < n → j < 32 → cell (join n (λ i. fit 32 (f i))) i j ≡ get_or (f i) j 0
cell-fit n f i j hi hj = join-at n 32 (λ i. fit 32 (f i)) (λ i l. length-fit 32 (f i)) i j hi hj ∙ fit_at 32 (f i) j hj

pub row-fit : (m : ℕ) (p : List ℕ) → tabulate m (λ j. get_or p j 0) ≡ fit m p
row-fit zero p = refl
row-fit (suc m) [] = ap {B = List ℕ} (λ l. 0 ∷ l) (row-fit m [])
row-fit (suc m) (x ∷ p) = ap {B = List ℕ} (λ l. x ∷ l) (row-fit m p)

pub total-at : (m : ℕ) (h : ℕ → List ℕ) (j : ℕ) → get_or (total m h) j 0 ≡ sum m (λ t. get_or (h t) j 0)
total-at zero h j = refl
total-at (suc m) h j = plus-at (h 0) (total m (λ t. h (suc t))) j ∙ ap (add (get_or (h 0) j 0)) (total-at m (λ t. h (suc t)) j)

module _ (xs : List ℕ) (bx : Bytes xs) (dx : Distinct xs) where
  abbrev m : ℕ
  m = length xs

  -- each coefficient
  pub coefficient : (vs : List ℕ) → m ≡ length vs → Bytes vs → (j : ℕ) → sum m (λ s. mul (get_or vs s 0) (get_or (interpolate xs (unit m s)) j 0)) ≡ get_or (interpolate xs vs) j 0
  coefficient vs l bv j =
      sym (ap (λ (p : List ℕ). get_or p j 0) (coefficients-are xs bx dx vs l bv) ∙ total-at m (λ s. scale (get_or vs s 0) (interpolate xs (unit m s))) j
      ∙ sum-ext m _ _ (λ s. scale_at (get_or vs s 0) (interpolate xs (unit m s)) j))

  -- all of them, where these are the rows of coefficients
  pub sums-through : (rows : List ℕ) → ((s j : ℕ) → s < m → j < 32 → cell rows s j ≡ get_or (interpolate xs (unit m s)) j 0)
      → (cs : ℕ → ℕ) → Bytes (tabulate m cs) → sums m cs rows ≡ fit 32 (interpolate xs (tabulate m cs))
  unfolding sums
  sums-through rows h cs bv =
      tabulate-ext 32 _ (λ j. get_or (interpolate xs (tabulate m cs)) j 0) (λ j hj.
      sum_below m _ (λ s. mul (get_or (tabulate m cs) s 0) (get_or (interpolate xs (unit m s)) j 0))
      (λ s hs. ap₂ mul (sym (tabulate-at m cs 0 s hs)) (h s j hs hj))
      ∙ coefficient (tabulate m cs) (sym (length-tabulate m cs)) bv j)
      ∙ row-fit 32 (interpolate xs (tabulate m cs))

  pub rows-through : (cs : ℕ → ℕ) → Bytes (tabulate m cs) → sums m cs (unit_rows xs) ≡ fit 32 (interpolate xs (tabulate m cs))
  unfolding unit_rows
  rows-through = sums-through (unit_rows xs) (λ s j hs hj. cell-fit m (λ s. interpolate xs (unit m s)) s j hs hj)

pub length-sums : (m : ℕ) (cs : ℕ → ℕ) (rows : List ℕ) → length (sums m cs rows) ≡ 32
unfolding sums
length-sums m cs rows = length-tabulate 32 (λ j. sum m (λ s. mul (cs s) (cell rows s j)))

pub sums_at : (m : ℕ) (cs : ℕ → ℕ) (rows : List ℕ) (j : ℕ) → j < 32 → get_or (sums m cs rows) j 0 ≡ sum m (λ s. mul (cs s) (cell rows s j))
unfolding sums
sums_at m cs rows j h = tabulate-at 32 (λ j. sum m (λ s. mul (cs s) (cell rows s j))) 0 j h

-- only the rows and numbers that it takes count
pub sums-ext : (m : ℕ) (cs cs' : ℕ → ℕ) (rows rows' : List ℕ) → ((s : ℕ) → s < m → cs s ≡ cs' s) → ((s j : ℕ) → s < m → j < 32 → cell rows s j ≡ cell rows' s j)
    → sums m cs rows ≡ sums m cs' rows'
unfolding sums
sums-ext m cs cs' rows rows' h r = tabulate-ext 32 _ _ (λ j hj. sum_below m _ _ (λ s hs. ap₂ mul (h s hs) (r s j hs hj)))
