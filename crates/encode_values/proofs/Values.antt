-- The rows of a stripe's values: the two groups of rows make all, and their columns are the polynomials in X at each point for Y.
-- Assumes nothing.
use mathlib.Core.Path.{◌≡◌, sym, ap, ap₂, ◌∙◌}
use mathlib.Core.List.{List, [], ◌++◌, append-nil, append_assoc}
use Prim.Native.Nat.{ℕ, zero, suc, ◌+◌, ◌*◌, ◌-◌, ◌<◌}
use native.Mathlib.Nat.{zero-add, suc-add}
use native.Mathlib.Omega.{arith}
use lib.ListN.{length, get_or, take, drop, length-drop, length-append, drop_of_length-le, get_or-append}
use lib.Seq.{take_at, drop_at, take_all, drop-drop}
use borrow.Rule.Slice.PartMut.{put_mid}
use Rattle.lists.specs.Lists.{tabulate, join, piece}
use Rattle.lists.proofs.Pieces.{length-tabulate, tabulate-ext, tabulate-map, map_at, length-join, join-ext, piece-join, piece-at}
use Rattle.sizes.specs.declared.Sizes.{Sizes}
use Rattle.sizes.specs.Sizing.{B}
use Rattle.sizes.proofs.Legal.{Legal}
use Rattle.polynomial.specs.Polynomial.{eval, evals, at_y}
use Rattle.mbcr.specs.Share.{point, grid, F}
use Rattle.mbcr.proofs.Shape.{upper-row, lower-row}
use Rattle.encode_values.specs.Steps.{row_values}
use Rattle.encode_values.proofs.Sums.{upper_values, length-upper, length-values}

-- joins, one after the other
pub join-add : (m n : ℕ) (f : ℕ → List ℕ) → join m f ++ join n (λ i. f (m + i)) ≡ join (m + n) f
join-add zero n f = join-ext n (λ i. f (zero + i)) f (λ i h. ap f (zero-add i)) ∙ ap (λ (m : ℕ). join m f) (sym (zero-add n))
join-add (suc m) n f =
    append_assoc (f 0) (join m (λ i. f (suc i))) (join n (λ i. f (suc m + i)))
    ∙ ap (λ (l : List ℕ). f 0 ++ l)
    (ap (λ (l : List ℕ). join m (λ i. f (suc i)) ++ l) (join-ext n (λ i. f (suc m + i)) (λ i. f (suc (m + i))) (λ i h. ap f (suc-add m i)))
    ∙ join-add m n (λ i. f (suc i)))
    ∙ ap (λ (m : ℕ). join m f) (sym (suc-add m n))

module _ (z : Sizes) (legal : Legal z) (u : List ℕ) (lu : length u ≡ B z) (xs : List ℕ) (lx : length xs ≡ 32) where
  open z use {n, k, d, r}

  -- all rows: k of d + r coefficients, then d − k of k
  rows_all : join k (upper_values xs k (d + r) u) ++ join (d - k) (λ i. evals (piece k i (drop (k * k + k * (d + r - k)) u)) xs) ≡ row_values z xs u
  unfolding row_values
  rows_all =
      let e : k + (d - k) ≡ d = omega (arith, legal.read-helpers) in
      ap₂ {C = List ℕ} (λ (x y : List ℕ). x ++ y)
      (join-ext k (upper_values xs k (d + r) u) (λ i. evals (get_or (grid z u) i []) xs) (λ i h. ap (λ (p : List ℕ). evals p xs) (sym (upper-row z legal u lu i h))))
      (join-ext (d - k) _ (λ i. evals (get_or (grid z u) (k + i) []) xs) (λ i h. ap (λ (p : List ℕ). evals p xs) (sym (lower-row z legal u lu i h))))
      ∙ join-add k (d - k) (λ i. evals (get_or (grid z u) i []) xs) ∙ ap (λ (m : ℕ). join m (λ i. evals (get_or (grid z u) i []) xs)) e

  -- the second group put behind the first
  pub rows_made : (rows₀ rows cs ys : List ℕ) → length rows₀ ≡ 992 → rows ≡ join k (upper_values xs k (d + r) u) ++ drop (k * 32) rows₀
      → cs ≡ take (length u - (k * k + k * (d + r - k))) (drop (k * k + k * (d + r - k)) u)
      → ys ≡ join (d - k) (λ i. evals (piece k i cs) xs) ++ drop ((d - k) * 32) (take (length rows - k * 32) (drop (k * 32) rows))
      → put_mid (k * 32) (length rows - k * 32) rows ys ≡ row_values z xs u ++ drop (d * 32) rows₀
  rows_made rows₀ rows cs ys l₀ er ec ey =
      let low : ℕ = k * k + k * (d + r - k) in
      let first : List ℕ = join k (upper_values xs k (d + r) u) in
      let lf : length first ≡ k * 32 = length-join k 32 (upper_values xs k (d + r) u) (λ i h. length-upper xs k (d + r) u i lx) in
      let head : take (k * 32) rows ≡ first = ap (take (k * 32)) er ∙ take_at first (drop (k * 32) rows₀) (k * 32) lf in
      let rest : drop (k * 32) rows ≡ drop (k * 32) rows₀ = ap (drop (k * 32)) er ∙ drop_at first (drop (k * 32) rows₀) (k * 32) lf in
      let none : drop (length rows - k * 32) (drop (k * 32) rows) ≡ [] =
      drop_of_length-le (drop (k * 32) rows) {i = length rows - k * 32} (omega (arith, length-drop (k * 32) rows)) in
      let whole : take (length rows - k * 32) (drop (k * 32) rows) ≡ drop (k * 32) rows₀ =
      take_all (length rows - k * 32) (drop (k * 32) rows) (omega (arith, length-drop (k * 32) rows)) ∙ rest in
      let all : cs ≡ drop low u = ec ∙ take_all (length u - low) (drop low u) (omega (arith, length-drop low u)) in
      let far : k * 32 + (d - k) * 32 ≡ d * 32 = omega (arith, legal.read-helpers) in
      ap₂ {C = List ℕ} (λ (x y : List ℕ). x ++ (ys ++ y)) head none ∙ ap (λ (y : List ℕ). first ++ y) (append-nil ys ∙ ey)
      ∙ ap (λ (y : List ℕ). first ++ y) (ap₂ {C = List ℕ} (λ (x y : List ℕ). join (d - k) (λ i. evals (piece k i x) xs) ++ drop ((d - k) * 32) y) all whole)
      ∙ sym (append_assoc first (join (d - k) (λ i. evals (piece k i (drop low u)) xs)) (drop ((d - k) * 32) (drop (k * 32) rows₀)))
      ∙ ap₂ {C = List ℕ} (λ (x y : List ℕ). x ++ y) rows_all (drop-drop ((d - k) * 32) (k * 32) rows₀ ∙ ap (λ (m : ℕ). drop m rows₀) far)

  pub length-row_values : length (row_values z xs u) ≡ d * 32
  unfolding row_values
  length-row_values = length-join d 32 (λ i. evals (get_or (grid z u) i []) xs) (λ i h. length-values (get_or (grid z u) i []) xs lx)

  -- byte l of row i
  row-byte : (rows rest : List ℕ) (i l : ℕ) → rows ≡ row_values z xs u ++ rest → i < d → l < 32 → get_or rows (i * 32 + l) 0 ≡ eval (get_or (grid z u) i []) (point xs l)
  unfolding row_values
  row-byte rows rest i l e hi hl =
      let f : ℕ → List ℕ = λ i. evals (get_or (grid z u) i []) xs in
      ap (λ (t : List ℕ). get_or t (i * 32 + l) 0) e
      ∙ get_or-append (join d f) rest 0 (i * 32 + l) (omega (arith, length-row_values))
      ∙ sym (piece-at 32 i (join d f) l 0 hl)
      ∙ ap (λ (t : List ℕ). get_or t l 0) (piece-join d 32 f (λ i h. length-values (get_or (grid z u) i []) xs lx) i hi)
      ∙ map_at (λ x. eval (get_or (grid z u) i []) x) xs l (omega arith)

  length-grid : length (grid z u) ≡ d
  unfolding grid
  length-grid = simp (length-append, length-tabulate) (omega (arith, legal.read-helpers))

  -- a column of the rows is the polynomial in X at a point for Y
  pub column-is : (rows rest : List ℕ) (l : ℕ) → rows ≡ row_values z xs u ++ rest → l < 32 → tabulate d (λ i. get_or rows (i * 32 + l) 0) ≡ at_y (grid z u) (point xs l)
  column-is rows rest l e hl =
      tabulate-ext d (λ i. get_or rows (i * 32 + l) 0) (λ i. eval (get_or (grid z u) i []) (point xs l)) (λ i h. row-byte rows rest i l e h hl)
      ∙ tabulate-map (λ row. eval row (point xs l)) d (grid z u) [] length-grid

  -- its values are those of F
  pub column-value : (rows rest : List ℕ) (l x : ℕ) → rows ≡ row_values z xs u ++ rest → l < 32
      → eval (tabulate d (λ i. get_or rows (i * 32 + l) 0)) x ≡ F z u x (point xs l)
  unfolding F
  column-value rows rest l x e hl = ap (λ (p : List ℕ). eval p x) (column-is rows rest l e hl)

  -- at all points
  pub column-row : (rows rest row : List ℕ) (l b : ℕ) → rows ≡ row_values z xs u ++ rest → row ≡ evals (tabulate d (λ i. get_or rows (i * 32 + l) 0)) xs
      → l < 32 → b < 32 → get_or row b 0 ≡ F z u (point xs b) (point xs l)
  column-row rows rest row l b e er hl hb =
      ap (λ (t : List ℕ). get_or t b 0) er ∙ map_at (λ x. eval (tabulate d (λ i. get_or rows (i * 32 + l) 0)) x) xs b (omega arith)
      ∙ column-value rows rest l (point xs b) e hl

  -- and of all columns
  pub columns-at : (rows rest values more : List ℕ) (l b : ℕ) → rows ≡ row_values z xs u ++ rest
      → values ≡ join n (λ l. evals (tabulate d (λ i. get_or rows (i * 32 + l) 0)) xs) ++ more → l < n → b < 32
      → get_or values (l * 32 + b) 0 ≡ F z u (point xs b) (point xs l)
  columns-at rows rest values more l b e ev hl hb =
      let f : ℕ → List ℕ = λ l. evals (tabulate d (λ i. get_or rows (i * 32 + l) 0)) xs in
      let long : (l : ℕ) → length (f l) ≡ 32 = λ l. length-values (tabulate d (λ i. get_or rows (i * 32 + l) 0)) xs lx in
      ap (λ (t : List ℕ). get_or t (l * 32 + b) 0) ev
      ∙ get_or-append (join n f) more 0 (l * 32 + b) (omega (arith, length-join n 32 f (λ l h. long l)))
      ∙ sym (piece-at 32 l (join n f) b 0 hb)
      ∙ column-row rows rest (piece 32 l (join n f)) l b e (piece-join n 32 f (λ l h. long l) l hl) (omega (arith, legal.few)) hb
