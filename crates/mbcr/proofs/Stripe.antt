-- One stripe: what a board keeps fixes its f and g; helper pairs, exchanged bytes and the finished stripe are those of the stripe's F.
-- Assumes nothing.
use mathlib.Core.Path.{◌≡◌, refl, sym, ap, ap₂, fun_ext, ◌∙◌}
use mathlib.Core.List.{List, [], ◌∷◌, ◌++◌, map}
use Prim.Native.Nat.{ℕ, zero, suc, ◌+◌, ◌-◌, ◌<◌, ◌≤◌}
use native.Mathlib.Decide.{dec_lt}
use native.Mathlib.Omega.{arith}
use lib.ListN.{length, get_or, take, drop, length-append, length-map, length-drop, get_or-eq_default}
use lib.Seq.{take_at, drop_at}
use Rattle.lists.specs.Lists.{Bytes, fit}
use Rattle.lists.proofs.Pieces.{map-append}
use Rattle.sizes.specs.Sizing.{α, B}
use Rattle.sizes.specs.declared.Sizes.{Sizes}
use Rattle.sizes.proofs.Legal.{Legal, α-parts}
use Rattle.polynomial.specs.Polynomial.{eval, interpolate, Grid, column, at_x, at_y}
use Rattle.polynomial.proofs.Grid.{Shape, GridBytes, column-at, eval-at_x, at_x-at, at_y-at}
use Rattle.polynomial.proofs.Linear.{eval-fit, eval-zero, interpolate-fit, plus-bytes, scale-bytes}
use Rattle.polynomial.proofs.Poly.{eval-byte}
use Rattle.mbcr.specs.Rebuild.{own_f, own_g, helper_pair, g_from, f_from, finished_stripe}
use Rattle.mbcr.specs.Share.{DifferentPoints, grid, F, points, neighbours, symbols, kept, point}
use Rattle.mbcr.proofs.Points.{Boards, length-neighbours, neighbours-boards, neighbours-first, length-points, points-bytes, points-distinct, boards-left}
use Rattle.mbcr.proofs.Shape.{shape}

-- bytes of the polynomials at a given X or Y
pub at_x-bytes : (g : Grid) (x : ℕ) → GridBytes g → Bytes (at_x g x)
at_x-bytes [] x h = tt
at_x-bytes (row ∷ g) x h = plus-bytes row _ h.0 (scale-bytes x (at_x g x))

pub at_y-bytes : (g : Grid) (y : ℕ) → GridBytes g → Bytes (at_y g y)
at_y-bytes [] y h = tt
at_y-bytes (row ∷ g) y h = (eval-byte row y h.0, at_y-bytes g y h.1)

-- their degrees
module _ (k d r : ℕ) (g : Grid) (s : Shape k d r g) (le : k ≤ d) where
  row-length : (i : ℕ) → length (get_or g i []) ≤ d + r
  row-length i = go (dec_lt i k) (dec_lt i d)
    where
      go : Dec (i < k) → Dec (i < d) → length (get_or g i []) ≤ d + r
      go (yes a) b = omega (arith, s.upper i a)
      go (no a) (yes b) = omega (arith, s.lower i (omega arith) b)
      go (no a) (no b) = omega (arith, ap (λ (row : List ℕ). length row) (get_or-eq_default g [] {n = i} (omega (arith, s.rows))))

  pub at_x-high : (x j : ℕ) → d + r ≤ j → get_or (at_x g x) j 0 ≡ 0
  at_x-high x j h = at_x-at g x j ∙ eval-zero (column g j) x (λ i. column-at g i j ∙ get_or-eq_default (get_or g i []) 0 (omega (arith, row-length i)))

  pub at_y-high : (y i : ℕ) → d ≤ i → get_or (at_y g y) i 0 ≡ 0
  at_y-high y i h = at_y-at g y i ∙ ap (λ (row : List ℕ). eval row y) (get_or-eq_default g [] (omega (arith, s.rows)))

-- the values that are kept, of any functions f and g
module _ (z : Sizes) (xs : List ℕ) (legal : Legal z) where
  open z use {n, k, d, r}

  pub length_symbols : (i : ℕ) (f g : ℕ → ℕ) → length (symbols z xs i f g) ≡ α z
  unfolding symbols
  length_symbols i f g =
      simp (length-append, length-map, length-drop, length-neighbours) (α-parts z legal)

  pub symbols-f : (i : ℕ) (f g : ℕ → ℕ) → take (d + r) (symbols z xs i f g) ≡ map f (points xs (neighbours z i (d + r)))
  unfolding symbols
  symbols-f i f g =
      take_at (map f (points xs (neighbours z i (d + r)))) (map g (points xs (drop 1 (neighbours z i d)))) (d + r)
      (simp (length-map, length-neighbours))

  pub symbols-g : (i : ℕ) (f g : ℕ → ℕ) → i < n → f (point xs i) ≡ g (point xs i) → take 1 (symbols z xs i f g) ++ drop (d + r) (symbols z xs i f g)
      ≡ map g (points xs (neighbours z i d))
  unfolding symbols
  symbols-g i f g h e =
      let a = map f (points xs (neighbours z i (d + r))) in
      let b = map g (points xs (drop 1 (neighbours z i d))) in
      ap₂ {C = List ℕ} (λ x y. x ++ y) (first (d + r) (omega (arith, legal.some-fresh)) b ∙ ap (λ (v : ℕ). v ∷ []) e)
      (drop_at a b (d + r) (simp (length-map, length-neighbours)))
      ∙ sym (whole d (omega (arith, legal.some_read, legal.read-helpers)))
    where
      first : (m : ℕ) → 0 < m → (b : List ℕ) → take 1 (map f (points xs (neighbours z i m)) ++ b) ≡ f (point xs i) ∷ []
      first zero l b = absurd (omega arith)
      first (suc m) l b = rw (neighbours-first z i m h)

      whole : (m : ℕ) → 0 < m → map g (points xs (neighbours z i m)) ≡ (g (point xs i) ∷ []) ++ map g (points xs (drop 1 (neighbours z i m)))
      whole zero l = absurd (omega arith)
      whole (suc m) l = rw (neighbours-first z i m h)

module _ (z : Sizes) (xs : List ℕ) (legal : Legal z) (pts : DifferentPoints z xs) (u : List ℕ) (lu : length u ≡ B z) (bu : Bytes u) where
  open z use {n, k, d, r}

  sh : Shape k d r (grid z u)
  sh = shape z legal u lu bu

  -- the polynomial through values of F(x, Y) at d + r boards, and of F(X, y) at d boards
  pub f-through : (x : ℕ) (bs : List ℕ) → Boards z bs → length bs ≡ d + r
      → interpolate (points xs bs) (map (λ y. F z u x y) (points xs bs)) ≡ fit (d + r) (at_x (grid z u) x)
  unfolding F
  f-through x bs h l =
      let e : length (points xs bs) ≡ d + r = length-points xs bs ∙ l in
      ap (λ (f : ℕ → ℕ). interpolate (points xs bs) (map f (points xs bs))) (fun_ext (λ y. sym (eval-at_x (grid z u) x y)))
      ∙ interpolate-fit (at_x (grid z u) x) (points xs bs) (λ i m. at_x-high k d r (grid z u) sh legal.read-helpers x i (omega arith))
      (at_x-bytes (grid z u) x sh.bytes) (points-bytes z xs pts bs h) (points-distinct z xs pts bs h)
      ∙ ap (λ (m : ℕ). fit m (at_x (grid z u) x)) e

  pub g_through : (y : ℕ) (bs : List ℕ) → Boards z bs → length bs ≡ d
      → interpolate (points xs bs) (map (λ x. F z u x y) (points xs bs)) ≡ fit d (at_y (grid z u) y)
  unfolding F
  g_through y bs h l =
      let e : length (points xs bs) ≡ d = length-points xs bs ∙ l in
      interpolate-fit (at_y (grid z u) y) (points xs bs) (λ i m. at_y-high k d r (grid z u) sh legal.read-helpers y i (omega arith))
      (at_y-bytes (grid z u) y sh.bytes) (points-bytes z xs pts bs h) (points-distinct z xs pts bs h)
      ∙ ap (λ (m : ℕ). fit m (at_y (grid z u) y)) e

  -- their values
  pub f-value : (x y : ℕ) → eval (fit (d + r) (at_x (grid z u) x)) y ≡ F z u x y
  unfolding F
  f-value x y =
      eval-fit (d + r) (at_x (grid z u) x) y (λ j m. at_x-high k d r (grid z u) sh legal.read-helpers x j m) ∙ eval-at_x (grid z u) x y

  pub g-value : (x y : ℕ) → eval (fit d (at_y (grid z u) y)) x ≡ F z u x y
  unfolding F
  g-value x y = eval-fit d (at_y (grid z u) y) x (λ j m. at_y-high k d r (grid z u) sh legal.read-helpers y j m)

  -- "These fix f_i(Y) = F(x_i, Y), of degree below d + r, and g_i(X) = F(X, y_i), of degree below d"
  pub f-kept : (i : ℕ) → i < n → own_f z xs i (kept z xs u i) ≡ fit (d + r) (at_x (grid z u) (point xs i))
  unfolding own_f kept
  f-kept i h =
      ap (interpolate (points xs (neighbours z i (d + r)))) (symbols-f z xs legal i (λ y. F z u (point xs i) y) (λ x. F z u x (point xs i)))
      ∙ f-through (point xs i) (neighbours z i (d + r)) (neighbours-boards z i (d + r) h legal.enough) (length-neighbours z i (d + r))

  pub g-kept : (i : ℕ) → i < n → own_g z xs i (kept z xs u i) ≡ fit d (at_y (grid z u) (point xs i))
  unfolding own_g kept
  g-kept i h =
      ap (interpolate (points xs (neighbours z i d))) (symbols-g z xs legal i (λ y. F z u (point xs i) y) (λ x. F z u x (point xs i)) h refl)
      ∙ g_through (point xs i) (neighbours z i d) (neighbours-boards z i d h (omega (arith, legal.enough))) (length-neighbours z i d)

  -- the helper_pair of helper j for board i is F(x_j, y_i), F(x_i, y_j)
  pub pair-true : (i j : ℕ) → j < n → helper_pair z xs j i (kept z xs u j) ≡ F z u (point xs j) (point xs i) ∷ F z u (point xs i) (point xs j) ∷ []
  unfolding helper_pair
  pair-true i j h =
      ap₂ {C = List ℕ} (λ a b. a ∷ b ∷ [])
      (ap (λ (p : List ℕ). eval p (point xs i)) (f-kept j h) ∙ f-value (point xs j) (point xs i))
      (ap (λ (p : List ℕ). eval p (point xs i)) (g-kept j h) ∙ g-value (point xs i) (point xs j))

  -- what helpers' first and second bytes are, for board i
  abbrev pub firsts : ℕ → List ℕ → List ℕ
  firsts i hs = map (λ j. F z u (point xs j) (point xs i)) hs

  abbrev pub seconds : ℕ → List ℕ → List ℕ
  seconds i hs = map (λ j. F z u (point xs i) (point xs j)) hs

  map-map : (f : ℕ → ℕ) (bs : List ℕ) → map (λ j. f (point xs j)) bs ≡ map f (points xs bs)
  map-map f [] = refl
  map-map f (b ∷ bs) = ap {B = List ℕ} (λ l. f (point xs b) ∷ l) (map-map f bs)

  -- g_i of true first bytes
  pub g-true : (i : ℕ) (hs : List ℕ) → Boards z hs → length hs ≡ d → g_from z xs hs (firsts i hs) ≡ fit d (at_y (grid z u) (point xs i))
  unfolding g_from
  g-true i hs h l = ap (interpolate (points xs hs)) (map-map (λ x. F z u x (point xs i)) hs) ∙ g_through (point xs i) hs h l

  -- the exchanged byte of board i for board m is F(x_m, y_i)
  pub exchanged-true : (i m : ℕ) (hs : List ℕ) → Boards z hs → length hs ≡ d → eval (g_from z xs hs (firsts i hs)) (point xs m) ≡ F z u (point xs m) (point xs i)
  exchanged-true i m hs h l = ap (λ (p : List ℕ). eval p (point xs m)) (g-true i hs h l) ∙ g-value (point xs m) (point xs i)

  -- f_i of true second bytes, exchanged bytes and g_i(x_i)
  f-true : (i : ℕ) (hs ms : List ℕ) → Boards z (hs ++ ms ++ (i ∷ [])) → length hs ≡ d → length ms ≡ r - 1
      → (g : List ℕ) → eval g (point xs i) ≡ F z u (point xs i) (point xs i)
      → f_from z xs i hs (seconds i hs) ms (seconds i ms) g ≡ fit (d + r) (at_x (grid z u) (point xs i))
  unfolding f_from
  f-true i hs ms h lh lm g e =
      ap (interpolate (points xs (hs ++ ms ++ (i ∷ []))))
      (ap (λ (v : ℕ). seconds i hs ++ seconds i ms ++ (v ∷ [])) e
      ∙ ap (λ (l : List ℕ). l ++ (F z u (point xs i) (point xs i) ∷ [])) (sym (map-append (λ j. F z u (point xs i) (point xs j)) hs ms))
      ∙ sym (map-append (λ j. F z u (point xs i) (point xs j)) (hs ++ ms) (i ∷ []))
      ∙ map-map (λ y. F z u (point xs i) y) (hs ++ ms ++ (i ∷ [])))
      ∙ f-through (point xs i) (hs ++ ms ++ (i ∷ [])) h (simp length-append (omega (arith, legal.some-fresh)))

  -- the stripe that board i finishes is what it keeps of u
  pub rebuilt-true : (i : ℕ) (hs ms : List ℕ) → Boards z (hs ++ ms ++ (i ∷ [])) → length hs ≡ d → length ms ≡ r - 1
      → finished_stripe z xs i hs (firsts i hs) (seconds i hs) ms (seconds i ms) ≡ kept z xs u i
  unfolding finished_stripe kept
  rebuilt-true i hs ms h lh lm =
      let bh : Boards z hs = boards-left z hs ms (boards-left z (hs ++ ms) (i ∷ []) h) in
      let g : List ℕ = g_from z xs hs (firsts i hs) in
      let gv : (x : ℕ) → eval g x ≡ F z u x (point xs i) = λ x. ap (λ (p : List ℕ). eval p x) (g-true i hs bh lh) ∙ g-value x (point xs i) in
      let fe : f_from z xs i hs (seconds i hs) ms (seconds i ms) g ≡ fit (d + r) (at_x (grid z u) (point xs i)) = f-true i hs ms h lh lm g (gv (point xs i)) in
      ap₂ (symbols z xs i)
      (fun_ext (λ y. ap (λ (p : List ℕ). eval p y) fe ∙ f-value (point xs i) y))
      (fun_ext gv)
