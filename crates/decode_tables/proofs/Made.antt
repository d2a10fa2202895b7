-- Values in place of a row's beginning, and the polynomial through them in place of these; factors from Lagrange's rows.
-- Assumes nothing.
use mathlib.Core.Path.{◌≡◌, refl, sym, ap, ap₂, ◌∙◌}
use mathlib.Core.Bool.{Bool, true, false}
use mathlib.Core.List.{List, [], ◌∷◌, ◌++◌, map}
use Prim.Native.Nat.{ℕ, zero, suc, ◌+◌, ◌-◌, ◌%◌, ◌<◌, ◌≤◌}
use native.Mathlib.Nat.{sub-zero, mod-lt}
use native.Mathlib.Omega.{arith}
use lib.Dec.{eqb, ltb}
use lib.ListN.{length, get_or, take, drop}
use lib.Seq.{take_at, drop_at}
use borrow.Author.Tests.{lt-ltb}
use borrow.Rule.Slice.PartMut.{put_mid}
use Rattle.lists.specs.Tests.{pick, below}
use Rattle.lists.specs.Lists.{tabulate, join, fit}
use Rattle.lists.proofs.Boards.{all-below}
use Rattle.lists.proofs.Pieces.{length-tabulate, tabulate-at, tabulate-ext, tabulate-all, tabulate-map, join-ext}
use Rattle.sizes.specs.declared.Sizes.{Sizes}
use Rattle.polynomial.specs.Polynomial.{interpolate, power}
use Rattle.polynomial.proofs.Poly.{length-interpolate}
use Rattle.mbcr.specs.Share.{point, points, neighbours}
use Rattle.lagrange.specs.Steps.{unit, weight}
use Rattle.lagrange_rows.specs.Steps.{lagrange_row, lagrange_rows}
use Rattle.decode_laws.specs.Steps.{cell, unit_rows, top_rows, seeds, seed_rows, factors_of}
use Rattle.decode_laws.proofs.Rows.{join-at, cell-fit}

-- ---- values

pub seeds-made : (xs : List ℕ) (s : ℕ) → tabulate (length xs) (λ t. pick (ltb s (length xs)) (pick (eqb t s) 1 0) (power (get_or xs t 0) s)) ≡ seeds xs s
seeds-made xs s = go (ltb s (length xs))
  where
    go : (b : Bool) → tabulate (length xs) (λ t. pick b (pick (eqb t s) 1 0) (power (get_or xs t 0) s)) ≡ pick b (unit (length xs) s) (map (λ x. power x s) xs)
    go true = refl
    go false = tabulate-map (λ x. power x s) (length xs) xs 0 refl

pub length-seeds : (xs : List ℕ) (s : ℕ) → length (seeds xs s) ≡ length xs
length-seeds xs s = ap length (sym (seeds-made xs s)) ∙ length-tabulate (length xs) _

-- ---- a row

zeros-behind : (m : ℕ) (y : List ℕ) → length y ≤ m → y ++ drop (length y) (tabulate m (λ _. 0)) ≡ fit m y
zeros-behind zero [] h = refl
zeros-behind zero (x ∷ y) h = absurd (omega arith)
zeros-behind (suc m) [] h = ap {B = List ℕ} (λ l. 0 ∷ l) (zeros-behind m [] (omega arith))
zeros-behind (suc m) (x ∷ y) h = ap {B = List ℕ} (λ l. x ∷ l) (zeros-behind m y (omega arith))

-- a row of 00, its beginning lent twice
module _ (m : ℕ) (row y : List ℕ) (few : m ≤ 32) (lr : row ≡ tabulate 32 (λ _. 0)) (ly : length y ≡ m) where
  pub lent-again : take (m - 0) (drop 0 (put_mid 0 (m - 0) row y)) ≡ y
  lent-again = ap (λ (k : ℕ). take k (put_mid 0 (m - 0) row y)) (sub-zero m) ∙ take_at y _ m ly

  pub row_made : (w : List ℕ) → length w ≡ m → put_mid 0 (m - 0) (put_mid 0 (m - 0) row y) w ≡ fit 32 w
  row_made w lw =
      let e : drop (m - 0) (put_mid 0 (m - 0) row y) ≡ drop m row =
      ap₂ (λ (a b : ℕ). drop a (y ++ drop b row)) (sub-zero m) (sub-zero m) ∙ drop_at y (drop m row) m ly in
      ap (λ (l : List ℕ). w ++ l) (e ∙ ap (drop m) lr ∙ ap (λ (k : ℕ). drop k (tabulate 32 (λ _. 0))) (sym lw))
      ∙ zeros-behind 32 w (omega arith)

-- the row of coefficients
pub seed-row-made : (xs : List ℕ) (s : ℕ) (row y w : List ℕ) → length xs ≤ 32 → row ≡ tabulate 32 (λ _. 0) → y ≡ seeds xs s
    → w ≡ interpolate xs (take (length xs - 0) (drop 0 (put_mid 0 (length xs - 0) row y)))
    → put_mid 0 (length xs - 0) (put_mid 0 (length xs - 0) row y) w ≡ fit 32 (interpolate xs (seeds xs s))
seed-row-made xs s row y w few lr ey ew =
    let m : ℕ = length xs in
    let ly : length y ≡ m = ap length ey ∙ length-seeds xs s in
    let e : w ≡ interpolate xs (seeds xs s) = ew ∙ ap (interpolate xs) (lent-again m row y few lr ly ∙ ey) in
    row_made m row y few lr ly w (ap length e ∙ length-interpolate xs (seeds xs s) (sym (length-seeds xs s))) ∙ ap (fit 32) e

-- ---- rows by name

pub units-are : (xs : List ℕ) → seed_rows (length xs) xs ≡ unit_rows xs
unfolding seed_rows unit_rows
units-are xs =
    join-ext (length xs) _ _ (λ s h. ap (λ (b : Bool). fit 32 (interpolate xs (pick b (unit (length xs) s) (map (λ x. power x s) xs)))) (lt-ltb s (length xs) h))

pub tops-made : (k : ℕ) (xs : List ℕ) → length xs ≤ 32 → join (length xs - k) (λ i. fit 32 (tabulate (length xs) (λ s. cell (unit_rows xs) s (k + i)))) ≡ top_rows k xs
unfolding unit_rows top_rows
tops-made k xs h =
    join-ext (length xs - k) _ _ (λ i hi. ap (fit 32) (tabulate-ext (length xs) _ _ (λ s hs.
    cell-fit (length xs) (λ s. interpolate xs (unit (length xs) s)) s (k + i) hs (omega arith))))

-- ---- factors

pub near-below : (z : Sizes) (c b : ℕ) → z.n ≤ 32 → b < z.n → below 32 (tabulate c (λ t. (b + t) % z.n)) ≡ true
near-below z c b h l =
    all-below 32 (tabulate c (λ t. (b + t) % z.n)) (tabulate-all (λ i. i < 32) c (λ t. (b + t) % z.n) (λ t k. let q : (b + t) % z.n < z.n = mod-lt (b + t) (omega arith) in omega arith))

pub factors-made : (z : Sizes) (xs : List ℕ) (c b : ℕ) → z.n ≤ 32 → b < z.n → c ≤ z.n
    → join (z.n - c) (λ o. fit 32 (tabulate c (λ t. cell (lagrange_rows xs (tabulate c (λ t. (b + t) % z.n))) t ((b + (c + o)) % z.n)))) ≡ factors_of z xs c b
unfolding factors_of lagrange_rows lagrange_row neighbours
factors-made z xs c b hn hb hc =
    let bs : List ℕ = tabulate c (λ t. (b + t) % z.n) in
    let lb : length bs ≡ c = length-tabulate c (λ t. (b + t) % z.n) in
    join-ext (z.n - c) _ _ (λ o ho. ap (fit 32) (tabulate-ext c _ _ (λ t ht.
    let q : (b + (c + o)) % z.n < z.n = mod-lt (b + (c + o)) (omega arith) in
    join-at (length bs) 32 (λ t. tabulate 32 (λ m. weight (points xs bs) t (point xs m))) (λ t l. length-tabulate 32 (λ m. weight (points xs bs) t (point xs m))) t ((b + (c + o)) % z.n)
    (omega arith) (omega arith)
    ∙ tabulate-at 32 (λ m. weight (points xs bs) t (point xs m)) 0 ((b + (c + o)) % z.n) (omega arith))))
