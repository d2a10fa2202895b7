-- Products of differences, from both sides of a point; turns of the loops that make the rows.
-- Assumes nothing.
use mathlib.Core.Path.{◌≡◌, refl, sym, ap, ap₂, ◌∙◌}
use mathlib.Core.List.{List, [], ◌∷◌, ◌++◌, append-nil}
use Prim.Native.Nat.{ℕ, suc, ◌+◌, ◌*◌, ◌-◌, ◌<◌, ◌≤◌}
use native.Mathlib.Nat.{suc-mul}
use native.Mathlib.Numerals.{add-one}
use native.Mathlib.Omega.{arith}
use lib.ListN.{length, get_or, take, drop, length-drop, drop_of_length-le}
use lib.Seq.{take-suc, take_all, drop-cons, take-append-le, drop-append-le, length-take-le}
use borrow.Rule.Slice.PartMut.{put_mid}
use Rattle.lists.specs.Lists.{tabulate, concat, join, piece}
use Rattle.lists.proofs.Put.{within}
use Rattle.lists.proofs.Pieces.{length-tabulate, tabulate-at, tabulate-ext, map_at, length-join, piece-join, piece-at, part-piece}
use Rattle.gf256.specs.Field.{add, mul, inverse}
use Rattle.gf256.proofs.Field.{one-mul, mul-lt}
use Rattle.gf256.proofs.Ring.{ring}
use Rattle.mbcr.specs.Share.{point, points}
use Rattle.lagrange.specs.Steps.{differences, others, weight}
use Rattle.row_dots.proofs.Rows.{back-loop}
use Rattle.lagrange_rows.specs.Steps.{before_row, lagrange_row, lagrange_rows}

-- ---- products of differences

differences-byte : (xs : List ℕ) (y : ℕ) → differences xs y < 256
differences-byte [] y = omega arith
differences-byte (x ∷ xs) y = mul-lt (add y x) (differences xs y)

differences-append : (xs ys : List ℕ) (y : ℕ) → differences (xs ++ ys) y ≡ mul (differences xs y) (differences ys y)
differences-append [] ys y = sym (one-mul (differences ys y) (differences-byte ys y))
differences-append (x ∷ xs) ys y = ap (mul (add y x)) (differences-append xs ys y) ∙ law (add y x) (differences xs y) (differences ys y)
  where
    law : (a b c : ℕ) → mul a (mul b c) ≡ mul (mul a b) c
    law a b c = simp ring

-- one point more
differences-suc : (xs : List ℕ) (t y : ℕ) → t < length xs → differences (take (suc t) xs) y ≡ mul (add y (get_or xs t 0)) (differences (take t xs) y)
differences-suc xs t y h =
    ap (λ (l : List ℕ). differences l y) (take-suc xs t 0 h)
    ∙ differences-append (take t xs) (get_or xs t 0 ∷ []) y
    ∙ law (differences (take t xs) y) (add y (get_or xs t 0))
    ∙ ap (mul (add y (get_or xs t 0))) (one-mul (differences (take t xs) y) (differences-byte (take t xs) y))
  where
    law : (d e : ℕ) → mul d (mul e 1) ≡ mul e (mul 1 d)
    law d e = simp ring

-- the points before and those after make the factor
weight_is : (xs : List ℕ) (t x y : ℕ) → x ≡ get_or xs t 0
    → mul (inverse (mul (differences (take t xs) x) (differences (drop (suc t) xs) x))) (mul (differences (take t xs) y) (differences (drop (suc t) xs) y)) ≡ weight xs t y
unfolding weight
weight_is xs t x y e =
    sym
    (ap₂ (λ (a b : ℕ). mul (inverse a) b)
    (ap (differences (others xs t)) (sym e) ∙ differences-append (take t xs) (drop (suc t) xs) x)
    (differences-append (take t xs) (drop (suc t) xs) y))

-- ---- the rows from the front

-- a byte of a row
pub row_at : (f : ℕ → ℕ) (row : List ℕ) (j : ℕ) → row ≡ tabulate 32 f → j < 32 → get_or row j 0 ≡ f j
row_at f row j e h = ap (λ (l : List ℕ). get_or l j 0) e ∙ tabulate-at 32 f 0 j h

pub length-row : (f : ℕ → ℕ) (row : List ℕ) → row ≡ tabulate 32 f → length row ≡ 32
length-row f row e = ap length e ∙ length-tabulate 32 f

-- the bytes of a row of products
abbrev before : List ℕ → List ℕ → ℕ → ℕ → ℕ
before pts xs t m = differences (take t xs) (point pts m)

abbrev after : List ℕ → List ℕ → ℕ → ℕ → ℕ
after pts xs t m = differences (drop t xs) (point pts m)

-- a row times the differences to one point more
once_more : (pts row row' : List ℕ) (x : ℕ) (f g : ℕ → ℕ) → row ≡ tabulate 32 f → ((j : ℕ) → mul (add (point pts j) x) (f j) ≡ g j)
    → row' ≡ tabulate (length row) (λ j. mul (add (get_or pts j 0) x) (get_or row j 0)) → row' ≡ tabulate 32 g
once_more pts row row' x f g e h e' =
    e' ∙ ap (λ (m : ℕ). tabulate m (λ j. mul (add (get_or pts j 0) x) (get_or row j 0))) (length-row f row e)
    ∙ tabulate-ext 32 (λ j. mul (add (get_or pts j 0) x) (get_or row j 0)) g (λ j k. ap (mul (add (get_or pts j 0) x)) (row_at f row j e k) ∙ h j)

pub before-turn : (pts xs row row' : List ℕ) (t : ℕ) → t < length xs → row ≡ before_row pts xs t
    → row' ≡ tabulate (length row) (λ j. mul (add (get_or pts j 0) (get_or xs t 0)) (get_or row j 0)) → row' ≡ before_row pts xs (t + 1)
unfolding before_row
before-turn pts xs row row' t h e =
    once_more pts row row' (get_or xs t 0) (before pts xs t) (before pts xs (t + 1)) e
    (λ j. sym (ap (λ (s : ℕ). differences (take s xs) (point pts j)) (add-one t) ∙ differences-suc xs t (point pts j) h))

pub length_before : (pts xs : List ℕ) (t : ℕ) → length (before_row pts xs t) ≡ 32
unfolding before_row
length_before pts xs t = length-tabulate 32 (before pts xs t)

pub before-start : (pts xs : List ℕ) → tabulate 32 (λ m. 1) ≡ before_row pts xs 0
unfolding before_row
before-start pts xs = refl

-- ---- the rows from the end

-- the product of y - x over the points from the t-th on, at the point y of each board
unfoldable pub after_row : List ℕ → List ℕ → ℕ → List ℕ
after_row pts xs t = tabulate 32 (λ m. differences (drop t xs) (point pts m))

pub after_turn : (pts xs row row' : List ℕ) (t : ℕ) → t < length xs → row ≡ after_row pts xs (suc t)
    → row' ≡ tabulate (length row) (λ j. mul (add (get_or pts j 0) (get_or xs t 0)) (get_or row j 0)) → row' ≡ after_row pts xs t
unfolding after_row
after_turn pts xs row row' t h e =
    once_more pts row row' (get_or xs t 0) (after pts xs (suc t)) (after pts xs t) e
    (λ j. sym (ap (λ (l : List ℕ). differences l (point pts j)) (drop-cons xs t 0 h)))

pub length-after : (pts xs : List ℕ) (t : ℕ) → length (after_row pts xs t) ≡ 32
unfolding after_row
length-after pts xs t = length-tabulate 32 (after pts xs t)

pub after-start : (pts xs : List ℕ) (t : ℕ) → length xs ≤ t → tabulate 32 (λ m. 1) ≡ after_row pts xs t
unfolding after_row
after-start pts xs t h = sym (ap (λ (l : List ℕ). tabulate 32 (λ m. differences l (point pts m))) (drop_of_length-le xs h))

-- a row with the points after it, divided by its value at its own point
pub divided : (row by inverses row₁ row₂ : List ℕ) (own k : ℕ) → inverses ≡ tabulate 256 inverse → length row ≡ 32 → own < 32
    → row₁ ≡ tabulate (length row) (λ j. mul (get_or row j 0) (get_or by j 0))
    → k ≡ get_or inverses (get_or row₁ own 0) 0 → row₂ ≡ tabulate (length row₁) (λ j. mul k (get_or row₁ j 0))
    → row₂ ≡ tabulate (length row) (λ m. mul (inverse (mul (get_or row own 0) (get_or by own 0))) (mul (get_or row m 0) (get_or by m 0)))
divided row by inverses row₁ row₂ own k ei l h e₁ ek e₂ =
    let f : ℕ → ℕ = λ j. mul (get_or row j 0) (get_or by j 0) in
    let e : row₁ ≡ tabulate 32 f = e₁ ∙ ap (λ (m : ℕ). tabulate m f) l in
    let v : get_or row₁ own 0 ≡ f own = row_at f row₁ own e h in
    let q : k ≡ inverse (f own) =
    ek ∙ ap₂ (λ (t : List ℕ) (i : ℕ). get_or t i 0) ei v ∙ tabulate-at 256 inverse 0 (f own) (mul-lt (get_or row own 0) (get_or by own 0)) in
    e₂ ∙ ap (λ (m : ℕ). tabulate m (λ j. mul k (get_or row₁ j 0))) (length-row f row₁ e)
    ∙ tabulate-ext 32 (λ j. mul k (get_or row₁ j 0)) (λ j. mul (inverse (f own)) (f j)) (λ j i. ap₂ mul q (row_at f row₁ j e i))
    ∙ ap (λ (m : ℕ). tabulate m (λ j. mul (inverse (f own)) (f j))) (sym l)

front : (t : ℕ) (a b : List ℕ) → length a ≡ t * 32 + 32 → piece 32 t (a ++ b) ≡ take 32 (drop (t * 32) a)
unfolding piece
front t a b n =
    ap (take 32) (drop-append-le (t * 32) a b (omega arith))
    ∙ take-append-le 32 (drop (t * 32) a) b (omega (arith, length-drop (t * 32) a))

fold : (t : ℕ) (l : List ℕ) → take 32 (drop (t * 32) l) ≡ piece 32 t l
unfolding piece
fold t l = refl

-- the rows from the front, all of them
abbrev pub befores : List ℕ → List ℕ → List ℕ → List ℕ
befores pts boards xs = join (length boards) (before_row pts xs)

-- what is done of the rows when those below t are left
abbrev pub left : List ℕ → List ℕ → List ℕ → ℕ → List ℕ
left pts boards xs t = take (t * 32) (befores pts boards xs) ++ concat (drop t (tabulate (length boards) (lagrange_row pts boards)))

module _ (pts boards xs : List ℕ) where
  abbrev m : ℕ
  m = length boards

  abbrev all : List ℕ
  all = befores pts boards xs

  length-all : length all ≡ m * 32
  length-all = length-join m 32 (before_row pts xs) (λ i h. length_before pts xs i)

  pub left-start : (t : ℕ) → t ≡ m → all ≡ left pts boards xs t
  left-start t e =
      sym
      (ap₂ {C = List ℕ} (λ x y. x ++ concat y) (take_all (t * 32) all (omega (arith, length-all)))
      (drop_of_length-le (tabulate m (lagrange_row pts boards)) {i = t} (omega (arith, length-tabulate m (lagrange_row pts boards))))
      ∙ append-nil all)

  row_fits : (t : ℕ) → t < m → t * 32 + 32 ≤ length all
  row_fits t h = omega (arith, length-all)

  -- the row that is taken up
  pub left-row : (rows : List ℕ) (t : ℕ) → t < m → rows ≡ left pts boards xs (suc t) → take (t * 32 + 32 - t * 32) (drop (t * 32) rows) ≡ before_row pts xs t
  left-row rows t h e =
      let s : suc t * 32 ≡ t * 32 + 32 = suc-mul t 32 in
      let n : length (take (t * 32 + 32) all) ≡ t * 32 + 32 = length-take-le (t * 32 + 32) all (row_fits t h) in
      let rest : List ℕ = concat (drop (suc t) (tabulate m (lagrange_row pts boards))) in
      part-piece 32 t rows ∙ ap (piece 32 t) (e ∙ ap (λ (i : ℕ). take i all ++ rest) s)
      ∙ front t (take (t * 32 + 32) all) rest n
      ∙ within 32 (t * 32 + 32) (t * 32) all (omega arith)
      ∙ fold t all ∙ piece-join m 32 (before_row pts xs) (λ i k. length_before pts xs i) t h

  -- and what it becomes
  pub row_done : (row by ys : List ℕ) (t : ℕ) → xs ≡ points pts boards → t < m → get_or boards t 0 < 32 → row ≡ before_row pts xs t
      → by ≡ after_row pts xs (suc t)
      → (let own = get_or boards t 0 in
      ys ≡ tabulate (length row) (λ m. mul (inverse (mul (get_or row own 0) (get_or by own 0))) (mul (get_or row m 0) (get_or by m 0))))
      → ys ≡ lagrange_row pts boards t
  unfolding before_row after_row lagrange_row
  row_done row by ys t ex h b er ea ey =
      let own : ℕ = get_or boards t 0 in
      let f : ℕ → ℕ = before pts xs t in
      let g : ℕ → ℕ = after pts xs (suc t) in
      let x : point pts own ≡ get_or xs t 0 = sym (ap (λ (l : List ℕ). get_or l t 0) ex ∙ map_at (point pts) boards t h) in
      let at : (j : ℕ) → j < 32 → mul (get_or row j 0) (get_or by j 0) ≡ mul (f j) (g j) = λ j k. ap₂ mul (row_at f row j er k) (row_at g by j ea k) in
      ey
      ∙ ap (λ (n : ℕ). tabulate n (λ j. mul (inverse (mul (get_or row own 0) (get_or by own 0))) (mul (get_or row j 0) (get_or by j 0)))) (length-row f row er)
      ∙ tabulate-ext 32 (λ j. mul (inverse (mul (get_or row own 0) (get_or by own 0))) (mul (get_or row j 0) (get_or by j 0)))
      (λ j. weight (points pts boards) t (point pts j))
      (λ j k. ap₂ (λ (a c : ℕ). mul (inverse a) c) (at own b) (at j k)
      ∙ weight_is xs t (point pts own) (point pts j) x
      ∙ ap (λ (l : List ℕ). weight l t (point pts j)) ex)

  pub left-turn : (rows ys : List ℕ) (t : ℕ) → t < m → ys ≡ lagrange_row pts boards t → rows ≡ left pts boards xs (suc t)
      → put_mid (t * 32) (t * 32 + 32 - t * 32) rows ys ≡ left pts boards xs t
  left-turn rows ys t h ey e =
      back-loop (lagrange_row pts boards) 32 m t all rows ys h (row_fits t h) ey
      (e ∙ ap (λ (i : ℕ). take i all ++ concat (drop (suc t) (tabulate m (lagrange_row pts boards)))) (suc-mul t 32))

  pub left_end : (rows : List ℕ) (t : ℕ) → t ≡ 0 → rows ≡ left pts boards xs t → rows ≡ lagrange_rows pts boards
  unfolding lagrange_rows
  left_end rows t z e = e ∙ ap (left pts boards xs) z

-- ---- the bytes of the rows

pub length-lagrange : (pts boards : List ℕ) (t : ℕ) → length (lagrange_row pts boards t) ≡ 32
unfolding lagrange_row
length-lagrange pts boards t = length-tabulate 32 (λ m. weight (points pts boards) t (point pts m))

lagrange-byte : (pts boards : List ℕ) (t i : ℕ) → i < 32 → get_or (lagrange_row pts boards t) i 0 ≡ weight (points pts boards) t (point pts i)
unfolding lagrange_row
lagrange-byte pts boards t i h = tabulate-at 32 (λ m. weight (points pts boards) t (point pts m)) 0 i h

pub lagrange-at : (pts boards : List ℕ) (t i : ℕ) → t < length boards → i < 32
    → get_or (lagrange_rows pts boards) (t * 32 + i) 0 ≡ weight (points pts boards) t (point pts i)
unfolding lagrange_rows
lagrange-at pts boards t i ht hi =
    let rows : List ℕ = join (length boards) (lagrange_row pts boards) in
    sym (piece-at 32 t rows i 0 hi)
    ∙ ap (λ (l : List ℕ). get_or l i 0) (piece-join (length boards) 32 (lagrange_row pts boards) (λ s h. length-lagrange pts boards s) t ht)
    ∙ lagrange-byte pts boards t i hi

pub length-rows : (pts boards : List ℕ) → length (lagrange_rows pts boards) ≡ length boards * 32
unfolding lagrange_rows
length-rows pts boards = length-join (length boards) 32 (lagrange_row pts boards) (λ s h. length-lagrange pts boards s)
