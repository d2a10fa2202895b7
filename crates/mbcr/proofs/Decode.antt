-- One stripe: what k boards keep of it decodes to it; and what any bytes decode to are B bytes.
-- Assumes nothing.
use mathlib.Core.Path.{◌≡◌, refl, sym, ap, ap₂, ◌∙◌}
use mathlib.Core.List.{List, [], ◌∷◌, ◌++◌, map}
use Prim.Native.Nat.{ℕ, zero, suc, ◌+◌, ◌-◌, ◌<◌, ◌≤◌}
use native.Mathlib.Omega.{arith}
use lib.ListN.{length, get_or, take, drop, replicate, length-append, length-map, length-drop}
use lib.Seq.{get_or-drop}
use Rattle.lists.specs.Lists.{Bytes, tabulate, join}
use Rattle.lists.proofs.Alls.{all-at_d, byte_at, append-all, take-alls, drop-alls, zeros-bytes}
use Rattle.lists.proofs.Pieces.{length-tabulate, tabulate-ext, tabulate-get_d, tabulate-map, tabulate-all, join-ext, length-join, join-bytes, fit_at}
use Rattle.gf256.specs.Field.{add}
use Rattle.sizes.specs.Sizing.{B}
use Rattle.sizes.specs.declared.Sizes.{Sizes}
use Rattle.sizes.proofs.Legal.{Legal, B-parts}
use Rattle.polynomial.specs.Polynomial.{eval, interpolate, Grid, entry, column, at_x, at_y}
use Rattle.polynomial.proofs.Grid.{Shape, column-at, column-bytes, at_x-at, at_y-at, decode-high}
use Rattle.polynomial.proofs.Linear.{above, interpolate-low}
use Rattle.polynomial.proofs.Poly.{add-byte, eval-byte, interpolate-evals, interpolate-bytes, length-interpolate}
use Rattle.mbcr.specs.Read.{through, b_column, c_row, a_column, decoded_stripe}
use Rattle.mbcr.specs.Rebuild.{own_f, own_g}
use Rattle.mbcr.specs.Share.{DifferentPoints, grid, points, neighbours, kept, point}
use Rattle.mbcr.proofs.Points.{Boards, length-points, points-bytes, points-distinct}
use Rattle.mbcr.proofs.Shape.{shape, ordered}
use Rattle.mbcr.proofs.Stripe.{f-kept, g-kept}

above-split : (m : ℕ) (p : List ℕ) → m ≤ length p → above m p ≡ replicate m 0 ++ drop m p
above-split zero p h = refl
above-split (suc m) [] h = absurd (omega arith)
above-split (suc m) (c ∷ p) h = ap {B = List ℕ} (λ l. 0 ∷ l) (above-split m p (omega arith))

-- ---- any bytes

module _ (z : Sizes) (xs : List ℕ) (legal : Legal z) (bs : List ℕ) (lb : length bs ≡ z.k) (w : ℕ → List ℕ) where
  open z use {n, k, d, r}

  length-through : (v : ℕ → ℕ) → length (through z xs bs v) ≡ k
  unfolding through
  length-through v =
      length-interpolate (points xs bs) (tabulate k v) (length-points xs bs ∙ lb ∙ sym (length-tabulate k v)) ∙ length-points xs bs ∙ lb

  pub length-decoded : length (decoded_stripe z xs bs w) ≡ B z
  unfolding decoded_stripe c_row
  length-decoded =
      let a : ℕ → List ℕ = λ i. tabulate k (λ j. get_or (a_column z xs bs w j) i 0) in
      let b : ℕ → List ℕ = λ i. tabulate (d + r - k) (λ j. get_or (b_column z xs bs w (k + j)) i 0) in
      let e : ℕ → List ℕ = λ i. c_row z xs bs w (k + i) in
      length-append (join k a ++ join k b) (join (d - k) e)
      ∙ ap₂ ◌+◌ (length-append (join k a) (join k b)
      ∙ ap₂ ◌+◌ (length-join k k a (λ i l. length-tabulate k _)) (length-join k (d + r - k) b (λ i l. length-tabulate (d + r - k) _)))
      (length-join (d - k) k e (λ i l. length-through _))
      ∙ B-parts z legal

  module _ (wb : (t : ℕ) → t < k → Bytes (w t)) where
    through-bytes : (v : ℕ → ℕ) → ((t : ℕ) → t < k → v t < 256) → Bytes (through z xs bs v)
    unfolding through
    through-bytes v h = interpolate-bytes (points xs bs) (tabulate k v) (tabulate-all (λ a. a < 256) k v h)

    f-byte : (t j : ℕ) → t < k → get_or (own_f z xs (get_or bs t 0) (w t)) j 0 < 256
    unfolding own_f
    f-byte t j h =
        byte_at (own_f z xs (get_or bs t 0) (w t)) (interpolate-bytes (points xs (neighbours z (get_or bs t 0) (d + r))) (take (d + r) (w t)) (take-alls (λ a. a < 256) (d + r) (w t) (wb t h))) j

    g-byte : (t j : ℕ) → t < k → get_or (own_g z xs (get_or bs t 0) (w t)) j 0 < 256
    unfolding own_g
    g-byte t j h =
        byte_at (own_g z xs (get_or bs t 0) (w t)) (interpolate-bytes (points xs (neighbours z (get_or bs t 0) d)) (take 1 (w t) ++ drop (d + r) (w t))
        (append-all (λ a. a < 256) (take 1 (w t)) (drop (d + r) (w t)) (take-alls (λ a. a < 256) 1 (w t) (wb t h)) (drop-alls (λ a. a < 256) (d + r) (w t) (wb t h)))) j

    c-bytes : (i : ℕ) → Bytes (c_row z xs bs w i)
    unfolding c_row
    c-bytes i = through-bytes _ (λ t h. g-byte t i h)

    b-bytes : (j : ℕ) → Bytes (b_column z xs bs w j)
    unfolding b_column
    b-bytes j = through-bytes _ (λ t h. f-byte t j h)

    a-bytes : (j : ℕ) → Bytes (a_column z xs bs w j)
    unfolding a_column
    a-bytes j =
        let high : List ℕ = tabulate (d - k) (λ i. get_or (c_row z xs bs w (k + i)) j 0) in
        through-bytes _ (λ t h. add-byte _ _ (f-byte t j h) (eval-byte (replicate k 0 ++ high) (point xs (get_or bs t 0))
        (append-all (λ a. a < 256) (replicate k 0) high (zeros-bytes k) (tabulate-all (λ a. a < 256) (d - k) _ (λ i l. byte_at (c_row z xs bs w (k + i)) (c-bytes (k + i)) j)))))

    pub decoded-bytes : Bytes (decoded_stripe z xs bs w)
    unfolding decoded_stripe
    decoded-bytes =
        let a : ℕ → List ℕ = λ i. tabulate k (λ j. get_or (a_column z xs bs w j) i 0) in
        let b : ℕ → List ℕ = λ i. tabulate (d + r - k) (λ j. get_or (b_column z xs bs w (k + j)) i 0) in
        let e : ℕ → List ℕ = λ i. c_row z xs bs w (k + i) in
        append-all (λ a. a < 256) (join k a ++ join k b) (join (d - k) e)
        (append-all (λ a. a < 256) (join k a) (join k b)
        (join-bytes k a (λ i l. tabulate-all (λ a. a < 256) k _ (λ j m. byte_at (a_column z xs bs w j) (a-bytes j) i)))
        (join-bytes k b (λ i l. tabulate-all (λ a. a < 256) (d + r - k) _ (λ j m. byte_at (b_column z xs bs w (k + j)) (b-bytes (k + j)) i))))
        (join-bytes (d - k) e (λ i l. c-bytes (k + i)))

-- ---- what k boards keep of a stripe

module _ (z : Sizes) (xs : List ℕ) (legal : Legal z) (pts : DifferentPoints z xs) (u : List ℕ) (lu : length u ≡ B z) (bu : Bytes u)
    (bs : List ℕ) (boards : Boards z bs) (lb : length bs ≡ z.k)
    (w : ℕ → List ℕ) (wt : (t : ℕ) → t < z.k → w t ≡ kept z xs u (get_or bs t 0)) where
  open z use {n, k, d, r}

  sh : Shape k d r (grid z u)
  sh = shape z legal u lu bu

  abbrev g : Grid
  g = grid z u

  board : (t : ℕ) → t < k → get_or bs t 0 < n
  board t h = all-at_d (λ i. i < n) 0 bs boards.known (omega (arith, legal.some_read, legal.read-helpers, legal.enough)) t

  lx : length (points xs bs) ≡ k
  lx = length-points xs bs ∙ lb

  map-map : (f : ℕ → ℕ) (l : List ℕ) → map (λ j. f (point xs j)) l ≡ map f (points xs l)
  map-map f [] = refl
  map-map f (b ∷ l) = ap {B = List ℕ} (λ l. f (point xs b) ∷ l) (map-map f l)

  -- values of h at the boards' points
  through-map : (h v : ℕ → ℕ) → ((t : ℕ) → t < k → v t ≡ h (point xs (get_or bs t 0))) → through z xs bs v ≡ interpolate (points xs bs) (map h (points xs bs))
  unfolding through
  through-map h v e =
      ap (interpolate (points xs bs))
      (tabulate-ext k v (λ t. h (point xs (get_or bs t 0))) e ∙ tabulate-map (λ b. h (point xs b)) k bs 0 lb ∙ map-map h bs)

  f-at : (t j : ℕ) → t < k → j < d + r → get_or (own_f z xs (get_or bs t 0) (w t)) j 0 ≡ get_or (at_x g (point xs (get_or bs t 0))) j 0
  f-at t j h l =
      ap (λ (w : List ℕ). get_or (own_f z xs (get_or bs t 0) w) j 0) (wt t h)
      ∙ ap (λ (p : List ℕ). get_or p j 0) (f-kept z xs legal pts u lu bu (get_or bs t 0) (board t h)) ∙ fit_at (d + r) _ j l

  g-at : (t i : ℕ) → t < k → i < d → get_or (own_g z xs (get_or bs t 0) (w t)) i 0 ≡ get_or (at_y g (point xs (get_or bs t 0))) i 0
  g-at t i h l =
      ap (λ (w : List ℕ). get_or (own_g z xs (get_or bs t 0) w) i 0) (wt t h)
      ∙ ap (λ (p : List ℕ). get_or p i 0) (g-kept z xs legal pts u lu bu (get_or bs t 0) (board t h)) ∙ fit_at d _ i l

  b-true : (i j : ℕ) → i < k → k ≤ j → j < d + r → get_or (b_column z xs bs w j) i 0 ≡ entry g i j
  unfolding b_column
  b-true i j hi hj lj =
      ap (λ (p : List ℕ). get_or p i 0)
      (through-map (λ x. get_or (at_x g x) j 0) _ (λ t h. f-at t j h lj)
      ∙ decode-high k d r (points xs bs) (points xs bs) lx lx (points-bytes z xs pts bs boards) (points-distinct z xs pts bs boards) (points-bytes z xs pts bs boards)
      (points-distinct z xs pts bs boards) g sh j hj)
      ∙ fit_at (length (points xs bs)) (column g j) i (omega (arith, lx)) ∙ column-at g i j

  c-true : (i : ℕ) → k ≤ i → i < d → c_row z xs bs w i ≡ get_or g i []
  unfolding c_row
  c-true i hi li =
      through-map (λ x. eval (get_or g i []) x) _ (λ t h. g-at t i h li ∙ at_y-at g (point xs (get_or bs t 0)) i)
      ∙ interpolate-evals (get_or g i []) (points xs bs) (sh.lower i hi li ∙ sym lx) (all-at_d Bytes [] g sh.bytes tt i) (points-bytes z xs pts bs boards) (points-distinct z xs pts bs boards)

  high-true : (j : ℕ) → replicate k 0 ++ tabulate (d - k) (λ i. get_or (c_row z xs bs w (k + i)) j 0) ≡ above k (column g j)
  high-true j =
      let lc : length (column g j) ≡ d = length-map g (λ row. get_or row j 0) ∙ sh.rows in
      ap (λ (l : List ℕ). replicate k 0 ++ l)
      (tabulate-ext (d - k) _ (λ i. get_or (drop k (column g j)) i 0)
      (λ i h. ap (λ (p : List ℕ). get_or p j 0) (c-true (k + i) (omega arith) (omega arith)) ∙ sym (column-at g (k + i) j) ∙ sym (get_or-drop k (column g j) i 0))
      ∙ tabulate-get_d (d - k) (drop k (column g j)) 0 (length-drop k (column g j) ∙ omega arith))
      ∙ sym (above-split k (column g j) (omega (arith, legal.read-helpers)))

  a-true : (i j : ℕ) → i < k → j < k → get_or (a_column z xs bs w j) i 0 ≡ entry g i j
  unfolding a_column
  a-true i j hi hj =
      ap (λ (p : List ℕ). get_or p i 0)
      (through-map (λ x. add (eval (column g j) x) (eval (above (length (points xs bs)) (column g j)) x)) _
      (λ t h. ap₂ add (f-at t j h (omega (arith, legal.read-helpers)) ∙ at_x-at g (point xs (get_or bs t 0)) j)
      (ap (λ (p : List ℕ). eval p (point xs (get_or bs t 0))) (high-true j ∙ ap (λ (m : ℕ). above m (column g j)) (sym lx))))
      ∙ interpolate-low (column g j) (points xs bs) (column-bytes g j sh.bytes) (points-bytes z xs pts bs boards) (points-distinct z xs pts bs boards))
      ∙ fit_at (length (points xs bs)) (column g j) i (omega (arith, lx)) ∙ column-at g i j

  -- the stripe
  pub decoded-true : decoded_stripe z xs bs w ≡ u
  unfolding decoded_stripe
  decoded-true =
      ap₂ {C = List ℕ} (λ x y. x ++ y)
      (ap₂ {C = List ℕ} (λ x y. x ++ y)
      (join-ext k _ (λ i. tabulate k (λ j. entry g i j)) (λ i h. tabulate-ext k _ (λ j. entry g i j) (λ j l. a-true i j h l)))
      (join-ext k _ (λ i. tabulate (d + r - k) (λ j. entry g i (k + j))) (λ i h. tabulate-ext (d + r - k) _ (λ j. entry g i (k + j)) (λ j l. b-true i (k + j) h (omega arith) (omega arith)))))
      (join-ext (d - k) _ (λ i. tabulate k (λ j. entry g (k + i) j))
      (λ i h. c-true (k + i) (omega arith) (omega arith) ∙ sym (tabulate-get_d k (get_or g (k + i) []) 0 (sh.lower (k + i) (omega arith) (omega arith)))))
      ∙ ordered z legal u lu
