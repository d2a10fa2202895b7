-- k boards agree in pairs just where they keep their bytes of the stripe that these decode to.
-- Assumes nothing.
use mathlib.Core.Path.{◌≡◌, refl, sym, ap, ap₂, fun_ext, ◌∙◌}
use mathlib.Core.Logic.{inl, inr}
use mathlib.Core.List.{List, [], ◌∷◌, ◌++◌}
use Prim.Native.Nat.{ℕ, zero, suc, ◌+◌, ◌*◌, ◌-◌, ◌<◌, ◌≤◌}
use native.Mathlib.Nat.{mul-add, add-sub_of_le}
use native.Mathlib.Decide.{dec_lt}
use native.Mathlib.Omega.{arith}
use lib.ListN.{length, get_or, take, drop, replicate, length-append, length-drop, length-replicate, get_or-append, get_or-eq_default}
use lib.Seq.{get_or-append-add, length-take-le}
use Rattle.lists.specs.Tests.{below}
use Rattle.lists.specs.Lists.{Bytes, tabulate, join, fit}
use Rattle.lists.proofs.Alls.{Distinct, all-at_d, all_of, byte_at, append-all, take-alls, drop-alls, zeros-bytes}
use Rattle.lists.proofs.Pieces.{length-tabulate, tabulate-at, tabulate-all, piece-at, piece-join, length-join, map_at, fit_at}
use Rattle.gf256.specs.Field.{add, mul}
use Rattle.gf256.proofs.Ring.{ring}
use Rattle.sizes.specs.declared.Sizes.{Sizes}
use Rattle.sizes.specs.Sizing.{legal, α, B}
use Rattle.sizes.proofs.Legal.{Legal, legal-facts, α-parts, row_fits}
use Rattle.polynomial.specs.Polynomial.{eval, interpolate, plus, Grid, entry, column, at_x, at_y}
use Rattle.polynomial.proofs.Grid.{Shape, column-at, eval-at_x, at_x-at, at_y-at}
use Rattle.polynomial.proofs.Linear.{eval-plus, eval-zero, plus-at, same-polynomial}
use Rattle.polynomial.proofs.Poly.{add-byte, eval-byte, evals-interpolate, interpolate-bytes, length-interpolate}
use Rattle.mbcr.specs.Share.{DifferentPoints, grid, F, points, neighbours, symbols, kept, point}
use Rattle.mbcr.specs.Rebuild.{own_f, own_g}
use Rattle.mbcr.specs.Read.{through, b_column, c_row, a_column, decoded_stripe}
use Rattle.mbcr.proofs.Points.{Boards, boards-of, length-neighbours, length-points, points-bytes, points-distinct}
use Rattle.mbcr.proofs.Shape.{shape, entry-a, entry-b, entry-c, entry-none}
use Rattle.mbcr.proofs.Own.{own-f-length, own-g-length, symbols-of}
use Rattle.mbcr.proofs.Places.{own-f-bytes, own-g-bytes}
use Rattle.mbcr.proofs.Stripe.{at_x-high, at_y-high, at_x-bytes, at_y-bytes, f-kept, g-kept, f-value, g-value}
use Rattle.mbcr.proofs.Decode.{length-decoded, decoded-bytes}
use Rattle.decode_agree.specs.Steps.{Pairs, Kept, Joins, PairsClaim, JoinsClaim}

-- lists with the same coefficients have the same values
eval-ext : (p q : List ℕ) (y : ℕ) → ((i : ℕ) → get_or p i 0 ≡ get_or q i 0) → eval p y ≡ eval q y
eval-ext [] q y h = sym (eval-zero q y (λ i. sym (h i)))
eval-ext (c ∷ p) [] y h = eval-zero (c ∷ p) y (λ i. h i)
eval-ext (c ∷ p) (e ∷ q) y h = ap₂ (λ (a b : ℕ). add a (mul y b)) (h 0) (eval-ext p q y (λ i. h (suc i)))

-- byte j of piece i
join-at : (n w : ℕ) (f : ℕ → List ℕ) → ((i : ℕ) → i < n → length (f i) ≡ w) → (i j : ℕ) → i < n → j < w → get_or (join n f) (i * w + j) 0 ≡ get_or (f i) j 0
join-at n w f l i j hi hj = sym (piece-at w i (join n f) j 0 hj) ∙ ap (λ (p : List ℕ). get_or p j 0) (piece-join n w f l i hi)

zeros : (i m : ℕ) → get_or {A = ℕ} (replicate m 0) i 0 ≡ 0
zeros i zero = refl
zeros zero (suc m) = refl
zeros (suc i) (suc m) = zeros i m

module _ (z : Sizes) (xs : List ℕ) (legal : Legal z) (pts : DifferentPoints z xs) (bs : List ℕ) (boards : Boards z bs) (lb : length bs ≡ z.k)
    (w : ℕ → List ℕ) (lw : (t : ℕ) → t < z.k → length (w t) ≡ α z) (bw : (t : ℕ) → t < z.k → Bytes (w t)) where
  open z use {n, k, d, r}

  abbrev x : ℕ → ℕ
  x t = point xs (get_or bs t 0)

  abbrev f : ℕ → List ℕ
  f t = own_f z xs (get_or bs t 0) (w t)

  abbrev g : ℕ → List ℕ
  g t = own_g z xs (get_or bs t 0) (w t)

  abbrev u : List ℕ
  u = decoded_stripe z xs bs w

  abbrev gr : Grid
  gr = grid z u

  lu : length u ≡ B z
  lu = length-decoded z xs legal bs lb w

  bu : Bytes u
  bu = decoded-bytes z xs legal bs lb w bw

  sh : Shape k d r gr
  sh = shape z legal u lu bu

  lx : length (points xs bs) ≡ k
  lx = length-points xs bs ∙ lb

  bx : Bytes (points xs bs)
  bx = points-bytes z xs pts bs boards

  dx : Distinct (points xs bs)
  dx = points-distinct z xs pts bs boards

  board : (t : ℕ) → t < k → get_or bs t 0 < n
  board t h = all-at_d (λ i. i < n) 0 bs boards.known (omega (arith, legal.some_read, legal.read-helpers, legal.enough)) t

  -- lengths and bytes of f and g
  length-f : (t : ℕ) → t < k → length (f t) ≡ d + r
  unfolding own_f
  length-f t h =
      let e : length (points xs (neighbours z (get_or bs t 0) (d + r))) ≡ d + r = length-points xs (neighbours z (get_or bs t 0) (d + r)) ∙ length-neighbours z (get_or bs t 0) (d + r) in
      length-interpolate (points xs (neighbours z (get_or bs t 0) (d + r))) (take (d + r) (w t))
      (e ∙ sym (length-take-le (d + r) (w t) (omega (arith, lw t h, α-parts z legal)))) ∙ e

  length-g : (t : ℕ) → t < k → length (g t) ≡ d
  unfolding own_g
  length-g t h =
      let e : length (points xs (neighbours z (get_or bs t 0) d)) ≡ d = length-points xs (neighbours z (get_or bs t 0) d) ∙ length-neighbours z (get_or bs t 0) d in
      let one : length (take 1 (w t)) ≡ 1 = length-take-le 1 (w t) (omega (arith, lw t h, α-parts z legal, legal.some-fresh)) in
      let l : length (take 1 (w t) ++ drop (d + r) (w t)) ≡ d =
      length-append (take 1 (w t)) (drop (d + r) (w t)) ∙ ap₂ ◌+◌ one (length-drop (d + r) (w t)) ∙ omega (arith, lw t h, α-parts z legal, legal.some_read, legal.read-helpers) in
      length-interpolate (points xs (neighbours z (get_or bs t 0) d)) (take 1 (w t) ++ drop (d + r) (w t)) (e ∙ sym l) ∙ e

  f-bytes : (t : ℕ) → t < k → Bytes (f t)
  unfolding own_f
  f-bytes t h = interpolate-bytes (points xs (neighbours z (get_or bs t 0) (d + r))) (take (d + r) (w t)) (take-alls (λ a. a < 256) (d + r) (w t) (bw t h))

  g-bytes : (t : ℕ) → t < k → Bytes (g t)
  unfolding own_g
  g-bytes t h =
      interpolate-bytes (points xs (neighbours z (get_or bs t 0) d)) (take 1 (w t) ++ drop (d + r) (w t))
      (append-all (λ a. a < 256) (take 1 (w t)) (drop (d + r) (w t)) (take-alls (λ a. a < 256) 1 (w t) (bw t h)) (drop-alls (λ a. a < 256) (d + r) (w t) (bw t h)))

  -- ---- from shares to pairs

  pub kept-pairs : Kept z xs bs w → Pairs z xs bs w
  kept-pairs h s t hs ht =
      ap (λ (p : List ℕ). eval p (x t)) (sym (ap (own_f z xs (get_or bs s 0)) (h s hs)) ∙ f-kept z xs legal pts u lu bu (get_or bs s 0) (board s hs))
      ∙ f-value z xs legal pts u lu bu (x s) (x t) ∙ sym (g-value z xs legal pts u lu bu (x s) (x t))
      ∙ ap (λ (p : List ℕ). eval p (x s)) (sym (g-kept z xs legal pts u lu bu (get_or bs t 0) (board t ht)) ∙ ap (own_g z xs (get_or bs t 0)) (h t ht))

  -- ---- the decoded grid

  -- a polynomial through values has them
  through-at : (v : ℕ → ℕ) → ((t : ℕ) → t < k → v t < 256) → (t : ℕ) → t < k → eval (through z xs bs v) (x t) ≡ v t
  unfolding through
  through-at v hv t h =
      let p : List ℕ = interpolate (points xs bs) (tabulate k v) in
      ap (eval p) (sym (map_at (point xs) bs t (omega arith)))
      ∙ sym (map_at (eval p) (points xs bs) t (omega (arith, lx)))
      ∙ ap (λ (l : List ℕ). get_or l t 0)
      (evals-interpolate (points xs bs) (tabulate k v) (lx ∙ sym (length-tabulate k v)) (tabulate-all (λ a. a < 256) k v hv) bx dx)
      ∙ tabulate-at k v 0 t h

  length-through : (v : ℕ → ℕ) → length (through z xs bs v) ≡ k
  unfolding through
  length-through v = length-interpolate (points xs bs) (tabulate k v) (lx ∙ sym (length-tabulate k v)) ∙ lx

  through-past : (v : ℕ → ℕ) (i : ℕ) → k ≤ i → get_or (through z xs bs v) i 0 ≡ 0
  through-past v i h = get_or-eq_default (through z xs bs v) 0 (omega (arith, length-through v))

  -- which coefficient each byte of the stripe is
  abbrev A : ℕ → List ℕ
  A i = tabulate k (λ j. get_or (a_column z xs bs w j) i 0)

  abbrev Bs : ℕ → List ℕ
  Bs i = tabulate (d + r - k) (λ j. get_or (b_column z xs bs w (k + j)) i 0)

  abbrev C : ℕ → List ℕ
  C i = c_row z xs bs w (k + i)

  length-A : length (join k A) ≡ k * k
  length-A = length-join k k A (λ i h. length-tabulate k _)

  length-B : length (join k Bs) ≡ k * (d + r - k)
  length-B = length-join k (d + r - k) Bs (λ i h. length-tabulate (d + r - k) _)

  length-C : (i : ℕ) → length (C i) ≡ k
  unfolding c_row
  length-C i = length-through _

  is-a : (i j : ℕ) → i < k → j < k → entry gr i j ≡ get_or (a_column z xs bs w j) i 0
  unfolding decoded_stripe
  is-a i j hi hj =
      let m : i * k + j < k * k = omega (arith, row_fits i k k hi) in
      entry-a z legal u lu i j hi hj
      ∙ get_or-append (join k A ++ join k Bs) (join (d - k) C) 0 (i * k + j) (omega (arith, length-append (join k A) (join k Bs), length-A))
      ∙ get_or-append (join k A) (join k Bs) 0 (i * k + j) (omega (arith, length-A))
      ∙ join-at k k A (λ i h. length-tabulate k _) i j hi hj ∙ tabulate-at k (λ j. get_or (a_column z xs bs w j) i 0) 0 j hj

  is_b : (i j : ℕ) → i < k → k ≤ j → j < d + r → entry gr i j ≡ get_or (b_column z xs bs w j) i 0
  unfolding decoded_stripe
  is_b i j hi hj lj =
      let m : i * (d + r - k) + (j - k) < k * (d + r - k) = omega (arith, row_fits i k (d + r - k) hi) in
      let e : k + (j - k) ≡ j = omega arith in
      entry-b z legal u lu i j hi hj lj
      ∙ get_or-append (join k A ++ join k Bs) (join (d - k) C) 0 (k * k + (i * (d + r - k) + (j - k))) (omega (arith, length-append (join k A) (join k Bs), length-A, length-B))
      ∙ ap (λ (q : ℕ). get_or (join k A ++ join k Bs) (q + (i * (d + r - k) + (j - k))) 0) (sym length-A)
      ∙ get_or-append-add (join k A) (join k Bs) (i * (d + r - k) + (j - k)) 0
      ∙ join-at k (d + r - k) Bs (λ i h. length-tabulate (d + r - k) _) i (j - k) hi (omega arith)
      ∙ tabulate-at (d + r - k) (λ j. get_or (b_column z xs bs w (k + j)) i 0) 0 (j - k) (omega arith)
      ∙ ap (λ (q : ℕ). get_or (b_column z xs bs w q) i 0) e

  is_c : (i j : ℕ) → k ≤ i → i < d → j < k → entry gr i j ≡ get_or (c_row z xs bs w i) j 0
  unfolding decoded_stripe
  is_c i j hi li hj =
      let e : k + (i - k) ≡ i = omega arith in
      let p : length (join k A ++ join k Bs) ≡ k * (d + r) =
      length-append (join k A) (join k Bs) ∙ ap₂ ◌+◌ length-A length-B ∙ sym (mul-add k k (d + r - k)) ∙ ap (λ (y : ℕ). k * y) (add-sub_of_le (omega (arith, legal.read-helpers))) in
      entry-c z legal u lu i j hi li hj
      ∙ ap (λ (q : ℕ). get_or ((join k A ++ join k Bs) ++ join (d - k) C) (q + ((i - k) * k + j)) 0) (sym p)
      ∙ get_or-append-add (join k A ++ join k Bs) (join (d - k) C) ((i - k) * k + j) 0
      ∙ join-at (d - k) k C (λ i h. length-C i) (i - k) j (omega arith) hj
      ∙ ap (λ (q : ℕ). get_or (c_row z xs bs w q) j 0) e

  -- ---- its rows at the boards' points are f

  f-byte : (t j : ℕ) → t < k → get_or (f t) j 0 < 256
  f-byte t j h = byte_at (f t) (f-bytes t h) j

  g-byte : (t j : ℕ) → t < k → get_or (g t) j 0 < 256
  g-byte t j h = byte_at (g t) (g-bytes t h) j

  abbrev high : ℕ → List ℕ
  high j = replicate k 0 ++ tabulate (d - k) (λ i. get_or (c_row z xs bs w (k + i)) j 0)

  entry-byte : (i j : ℕ) → entry gr i j < 256
  entry-byte i j = byte_at (get_or gr i []) (all-at_d Bytes [] gr sh.bytes tt i) j

  high-bytes : (j : ℕ) → j < k → Bytes (high j)
  high-bytes j hj =
      append-all (λ a. a < 256) (replicate k 0) (tabulate (d - k) (λ i. get_or (c_row z xs bs w (k + i)) j 0)) (zeros-bytes k)
      (tabulate-all (λ a. a < 256) (d - k) _ (λ i l. rw (← is_c (k + i) j (omega arith) (omega arith) hj) (entry-byte (k + i) j)))

  high-at : (i j : ℕ) → k ≤ i → i < d → get_or (high j) i 0 ≡ get_or (c_row z xs bs w i) j 0
  high-at i j hi li =
      let e : k + (i - k) ≡ i = omega arith in
      ap (λ (q : ℕ). get_or (high j) q 0) (sym e)
      ∙ ap (λ (q : ℕ). get_or (high j) (q + (i - k)) 0) (sym (length-replicate {A = ℕ} k 0))
      ∙ get_or-append-add (replicate k 0) (tabulate (d - k) (λ i. get_or (c_row z xs bs w (k + i)) j 0)) (i - k) 0
      ∙ tabulate-at (d - k) (λ i. get_or (c_row z xs bs w (k + i)) j 0) 0 (i - k) (omega arith)
      ∙ ap (λ (q : ℕ). get_or (c_row z xs bs w q) j 0) e

  high-low : (i j : ℕ) → i < k → get_or (high j) i 0 ≡ 0
  high-low i j h =
      get_or-append (replicate k 0) (tabulate (d - k) (λ i. get_or (c_row z xs bs w (k + i)) j 0)) 0 i (omega (arith, length-replicate {A = ℕ} k 0))
      ∙ zeros i k

  high-past : (i j : ℕ) → d ≤ i → get_or (high j) i 0 ≡ 0
  high-past i j h =
      get_or-eq_default (high j) 0
      (omega (
        arith,
        length-append (replicate k 0) (tabulate (d - k) (λ i. get_or (c_row z xs bs w (k + i)) j 0)),
        length-replicate {A = ℕ} k 0,
        length-tabulate (d - k)
            (λ i. get_or (c_row z xs bs w (k + i)) j 0),
        legal.read-helpers,
      ))

  a-past : (i j : ℕ) → k ≤ i → get_or (a_column z xs bs w j) i 0 ≡ 0
  unfolding a_column
  a-past i j h = through-past _ i h

  b-past : (i j : ℕ) → k ≤ i → get_or (b_column z xs bs w j) i 0 ≡ 0
  unfolding b_column
  b-past i j h = through-past _ i h

  c-past : (i j : ℕ) → k ≤ j → get_or (c_row z xs bs w i) j 0 ≡ 0
  unfolding c_row
  c-past i j h = through-past _ j h

  right : (a b c : ℕ) → c ≡ a → b ≡ 0 → c ≡ add a b
  right a b c e h = e ∙ sym (rw h (simp ring))

  left : (a b c : ℕ) → c ≡ b → a ≡ 0 → c ≡ add a b
  left a b c e h = e ∙ sym (rw h (simp ring))

  column-a : (j i : ℕ) → j < k → get_or (column gr j) i 0 ≡ get_or (plus (a_column z xs bs w j) (high j)) i 0
  column-a j i hj = column-at gr i j ∙ go (dec_lt i k) (dec_lt i d) ∙ sym (plus-at (a_column z xs bs w j) (high j) i)
    where
      go : Dec (i < k) → Dec (i < d) → entry gr i j ≡ add (get_or (a_column z xs bs w j) i 0) (get_or (high j) i 0)
      go (yes a) e = right _ _ _ (is-a i j a hj) (high-low i j a)
      go (no a) (yes e) = left _ _ _ (is_c i j (omega arith) e hj ∙ sym (high-at i j (omega arith) e)) (a-past i j (omega arith))
      go (no a) (no e) = left _ _ _ (entry-none z legal u lu i j (inr (inl (omega arith))) ∙ sym (high-past i j (omega arith))) (a-past i j (omega arith))

  column-b : (j i : ℕ) → k ≤ j → j < d + r → get_or (column gr j) i 0 ≡ get_or (b_column z xs bs w j) i 0
  column-b j i hj lj = column-at gr i j ∙ go (dec_lt i k)
    where
      go : Dec (i < k) → entry gr i j ≡ get_or (b_column z xs bs w j) i 0
      go (yes a) = is_b i j a hj lj
      go (no a) = entry-none z legal u lu i j (inl (omega arith, hj)) ∙ sym (b-past i j (omega arith))

  back : (a b : ℕ) → add (add a b) b ≡ a
  back a b = simp ring

  a-value : (t j : ℕ) → t < k → j < k → eval (a_column z xs bs w j) (x t) ≡ add (get_or (f t) j 0) (eval (high j) (x t))
  unfolding a_column
  a-value t j ht hj = through-at _ (λ t h. add-byte _ _ (f-byte t j h) (eval-byte (high j) (x t) (high-bytes j hj))) t ht

  b-value : (t j : ℕ) → t < k → eval (b_column z xs bs w j) (x t) ≡ get_or (f t) j 0
  unfolding b_column
  b-value t j ht = through-at _ (λ t h. f-byte t j h) t ht

  c-value : (t i : ℕ) → t < k → eval (c_row z xs bs w i) (x t) ≡ get_or (g t) i 0
  unfolding c_row
  c-value t i ht = through-at _ (λ t h. g-byte t i h) t ht

  at-x : (t j : ℕ) → t < k → get_or (at_x gr (x t)) j 0 ≡ get_or (f t) j 0
  at-x t j ht = go (dec_lt j k) (dec_lt j (d + r))
    where
      go : Dec (j < k) → Dec (j < d + r) → get_or (at_x gr (x t)) j 0 ≡ get_or (f t) j 0
      go (yes a) e =
          at_x-at gr (x t) j ∙ eval-ext (column gr j) (plus (a_column z xs bs w j) (high j)) (x t) (λ i. column-a j i a)
          ∙ eval-plus (a_column z xs bs w j) (high j) (x t) ∙ ap (λ (q : ℕ). add q (eval (high j) (x t))) (a-value t j ht a)
          ∙ back (get_or (f t) j 0) (eval (high j) (x t))
      go (no a) (yes e) =
          at_x-at gr (x t) j ∙ eval-ext (column gr j) (b_column z xs bs w j) (x t) (λ i. column-b j i (omega arith) e) ∙ b-value t j ht
      go (no a) (no e) =
          at_x-high k d r gr sh legal.read-helpers (x t) j (omega arith) ∙ sym (get_or-eq_default (f t) 0 (omega (arith, length-f t ht)))

  F-f : (t y : ℕ) → t < k → F z u (x t) y ≡ eval (f t) y
  unfolding F
  F-f t y ht = sym (eval-at_x gr (x t) y) ∙ eval-ext (at_x gr (x t)) (f t) y (λ j. at-x t j ht)

  -- ---- and, where the pairs agree, its columns are g

  row-c : (i j : ℕ) → k ≤ i → i < d → get_or (get_or gr i []) j 0 ≡ get_or (c_row z xs bs w i) j 0
  row-c i j hi li = go (dec_lt j k)
    where
      go : Dec (j < k) → entry gr i j ≡ get_or (c_row z xs bs w i) j 0
      go (yes a) = is_c i j hi li a
      go (no a) = entry-none z legal u lu i j (inl (hi, omega arith)) ∙ sym (c-past i j (omega arith))

  module _ (pairs : Pairs z xs bs w) where
    top : (t i : ℕ) → t < k → k ≤ i → get_or (at_y gr (x t)) i 0 ≡ get_or (g t) i 0
    top t i ht hi = go (dec_lt i d)
      where
        go : Dec (i < d) → get_or (at_y gr (x t)) i 0 ≡ get_or (g t) i 0
        go (yes e) = at_y-at gr (x t) i ∙ eval-ext (get_or gr i []) (c_row z xs bs w i) (x t) (λ j. row-c i j hi e) ∙ c-value t i ht
        go (no e) = at_y-high k d r gr sh legal.read-helpers (x t) i (omega arith) ∙ sym (get_or-eq_default (g t) 0 (omega (arith, length-g t ht)))

    meet : (s t : ℕ) → s < k → t < k → eval (at_y gr (x t)) (x s) ≡ eval (g t) (x s)
    unfolding F
    meet s t hs ht = F-f s (x t) hs ∙ pairs s t hs ht

    at-y : (t i : ℕ) → t < k → get_or (at_y gr (x t)) i 0 ≡ get_or (g t) i 0
    at-y t i ht =
        same-polynomial (at_y gr (x t)) (g t) (points xs bs) (λ i h. top t i ht (omega (arith, lx))) (at_y-bytes gr (x t) sh.bytes) (g-bytes t ht) bx dx
        (all_of (λ p. eval (at_y gr (x t)) p ≡ eval (g t) p) 0 (points xs bs)
        (λ s h.
        let e : get_or (points xs bs) s 0 ≡ x s = map_at (point xs) bs s (omega (arith, lx)) in
        rw e (meet s t (omega (arith, lx)) ht))) i

    F-g : (t y : ℕ) → t < k → F z u y (x t) ≡ eval (g t) y
    unfolding F
    F-g t y ht = eval-ext (at_y gr (x t)) (g t) y (λ i. at-y t i ht)

    pub pairs-kept : Kept z xs bs w
    unfolding kept
    pairs-kept t ht =
        ap₂ (symbols z xs (get_or bs t 0)) (fun_ext (λ y. F-f t y ht)) (fun_ext (λ y. F-g t y ht))
        ∙ symbols-of z xs legal (get_or bs t 0) (w t) (lw t ht) (bw t ht) pts (board t ht)

    -- ---- a further board

    module _ (q : ℕ) (v : List ℕ) (hq : q < n) (lv : length v ≡ α z) (bv : Bytes v) where
      abbrev y : ℕ
      y = point xs q

      fq-bytes : Bytes (own_f z xs q v)
      fq-bytes = own-f-bytes z xs legal q v bv

      gq-bytes : Bytes (own_g z xs q v)
      gq-bytes = own-g-bytes z xs legal q v bv

      -- at the boards' points
      f-at : (t : ℕ) → t < k → eval (at_x gr y) (x t) ≡ eval (g t) y
      unfolding F
      f-at t ht = eval-at_x gr y (x t) ∙ F-g t y ht

      g-at : (t : ℕ) → t < k → eval (at_y gr y) (x t) ≡ eval (f t) y
      unfolding F
      g-at t ht = F-f t y ht

      -- coefficients from k on
      f-top : (j : ℕ) → k ≤ j → j < d + r → get_or (at_x gr y) j 0 ≡ eval (b_column z xs bs w j) y
      f-top j hj lj = at_x-at gr y j ∙ eval-ext (column gr j) (b_column z xs bs w j) y (λ i. column-b j i hj lj)

      g-top : (i : ℕ) → k ≤ i → i < d → get_or (at_y gr y) i 0 ≡ eval (c_row z xs bs w i) y
      g-top i hi li = at_y-at gr y i ∙ eval-ext (get_or gr i []) (c_row z xs bs w i) y (λ j. row-c i j hi li)

      module _ (joins : Joins z xs bs w q v) where
        f-high : (j : ℕ) → k ≤ j → get_or (at_x gr y) j 0 ≡ get_or (own_f z xs q v) j 0
        f-high j hj = go (dec_lt j (d + r))
          where
            go : Dec (j < d + r) → get_or (at_x gr y) j 0 ≡ get_or (own_f z xs q v) j 0
            go (yes e) = f-top j hj e ∙ sym (joins.1 j hj e)
            go (no e) = at_x-high k d r gr sh legal.read-helpers y j (omega arith) ∙ sym (get_or-eq_default (own_f z xs q v) 0 (omega (arith, own-f-length z xs legal q v lv)))

        g-high : (i : ℕ) → k ≤ i → get_or (at_y gr y) i 0 ≡ get_or (own_g z xs q v) i 0
        g-high i hi = go (dec_lt i d)
          where
            go : Dec (i < d) → get_or (at_y gr y) i 0 ≡ get_or (own_g z xs q v) i 0
            go (yes e) = g-top i hi e ∙ sym (joins.2 i hi e)
            go (no e) = at_y-high k d r gr sh legal.read-helpers y i (omega arith) ∙ sym (get_or-eq_default (own_g z xs q v) 0 (omega (arith, own-g-length z xs legal q v lv)))

        f-same : (j : ℕ) → get_or (at_x gr y) j 0 ≡ get_or (own_f z xs q v) j 0
        f-same =
            same-polynomial (at_x gr y) (own_f z xs q v) (points xs bs) (λ j h. f-high j (omega (arith, lx))) (at_x-bytes gr y sh.bytes) fq-bytes bx dx
            (all_of (λ p. eval (at_x gr y) p ≡ eval (own_f z xs q v) p) 0 (points xs bs)
            (λ t h.
            let e : get_or (points xs bs) t 0 ≡ x t = map_at (point xs) bs t (omega (arith, lx)) in
            rw e (f-at t (omega (arith, lx)) ∙ sym (joins.0 t (omega (arith, lx))).0)))

        g-same : (i : ℕ) → get_or (at_y gr y) i 0 ≡ get_or (own_g z xs q v) i 0
        g-same =
            same-polynomial (at_y gr y) (own_g z xs q v) (points xs bs) (λ i h. g-high i (omega (arith, lx))) (at_y-bytes gr y sh.bytes) gq-bytes bx dx
            (all_of (λ p. eval (at_y gr y) p ≡ eval (own_g z xs q v) p) 0 (points xs bs)
            (λ t h.
            let e : get_or (points xs bs) t 0 ≡ x t = map_at (point xs) bs t (omega (arith, lx)) in
            rw e (g-at t (omega (arith, lx)) ∙ sym (joins.0 t (omega (arith, lx))).1)))

        F-of-f : (p : ℕ) → F z u y p ≡ eval (own_f z xs q v) p
        unfolding F
        F-of-f p = sym (eval-at_x gr y p) ∙ eval-ext (at_x gr y) (own_f z xs q v) p f-same

        F-of-g : (p : ℕ) → F z u p y ≡ eval (own_g z xs q v) p
        unfolding F
        F-of-g p = eval-ext (at_y gr y) (own_g z xs q v) p g-same

        pub joined : kept z xs u q ≡ v
        unfolding kept
        joined = ap₂ (symbols z xs q) (fun_ext F-of-f) (fun_ext F-of-g) ∙ symbols-of z xs legal q v lv bv pts hq

      pub joining : kept z xs u q ≡ v → Joins z xs bs w q v
      joining e = (
        (λ t ht. (
          ap (λ (p : List ℕ). eval p (x t)) own-f ∙ f-value z xs legal pts u lu bu y (x t) ∙ F-g t y ht,
          ap (λ (p : List ℕ). eval p (x t)) own-g ∙ g-value z xs legal pts u lu bu (x t) y ∙ F-f t y ht,
        )),
        (λ j hj lj. ap (λ (p : List ℕ). get_or p j 0) own-f ∙ fit_at (d + r) (at_x gr y) j lj ∙ f-top j hj lj),
        (λ i hi li. ap (λ (p : List ℕ). get_or p i 0) own-g ∙ fit_at d (at_y gr y) i li ∙ g-top i hi li),
      )
        where
          own-f : own_f z xs q v ≡ fit (d + r) (at_x gr y)
          own-f = ap (own_f z xs q) (sym e) ∙ f-kept z xs legal pts u lu bu q hq

          own-g : own_g z xs q v ≡ fit d (at_y gr y)
          own-g = ap (own_g z xs q) (sym e) ∙ g-kept z xs legal pts u lu bu q hq

pub joins-kept : JoinsClaim
joins-kept z xs bs w l pts lb below once lw bw pairs q v hq lv bv =
    let facts : Legal z = legal-facts z l in
    let boards : Boards z bs = boards-of z bs below once in
    (joined z xs facts pts bs boards lb w lw bw pairs q v hq lv bv, joining z xs facts pts bs boards lb w lw bw pairs q v hq lv bv)

pub pairs-agree : PairsClaim
pairs-agree z xs bs w l pts lb below once lw bw =
    let facts : Legal z = legal-facts z l in
    let boards : Boards z bs = boards-of z bs below once in
    (pairs-kept z xs facts pts bs boards lb w lw bw, kept-pairs z xs facts pts bs boards lb w lw bw)
