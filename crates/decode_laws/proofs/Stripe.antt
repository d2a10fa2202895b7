-- The stripe that coefficients of k boards give by sums of rows is the one that their bytes decode to.
-- Assumes nothing.
use mathlib.Core.Path.{◌≡◌, refl, sym, ap, ap₂, ◌∙◌}
use mathlib.Core.List.{List, ◌++◌, map}
use Prim.Native.Nat.{ℕ, zero, suc, ◌+◌, ◌*◌, ◌-◌, ◌<◌, ◌≤◌}
use native.Mathlib.Nat.{zero-add}
use native.Mathlib.Decide.{dec_lt}
use native.Mathlib.Omega.{arith}
use lib.Dec.{ltb}
use lib.ListN.{length, get_or, take, drop, replicate, length-append, length-drop, length-replicate, get_or-append, get_or-eq_default}
use lib.Seq.{length-take-le, get_or-append-add}
use borrow.Author.Tests.{lt-ltb, le-ltb}
use Rattle.lists.specs.Tests.{pick}
use Rattle.lists.specs.Lists.{Bytes, tabulate, join, piece, fit}
use Rattle.lists.proofs.Alls.{Distinct, byte_at, append-all, take-alls, drop-alls}
use Rattle.lists.proofs.Pieces.{length-tabulate, take-fit, tabulate-at, tabulate-all, tabulate-ext, join-ext, length-join, piece-join, map_at, length-fit}
use Rattle.gf256.specs.Field.{add, mul}
use Rattle.gf256.proofs.Sums.{add_zero_r}
use Rattle.gf256.proofs.Field.{mul_comm}
use Rattle.sizes.specs.declared.Sizes.{Sizes}
use Rattle.sizes.specs.Sizing.{α}
use Rattle.sizes.proofs.Legal.{Legal, α-parts}
use Rattle.polynomial.specs.Polynomial.{eval, interpolate, power}
use Rattle.polynomial.proofs.Poly.{interpolate-bytes, length-interpolate}
use Rattle.polynomial.proofs.Linear.{eval-zero}
use Rattle.mbcr.specs.Share.{DifferentPoints, points, neighbours, point}
use Rattle.mbcr.specs.Rebuild.{own_f, own_g}
use Rattle.mbcr.specs.Read.{through, a_column, b_column, c_row, decoded_stripe}
use Rattle.mbcr.proofs.Points.{Boards, length-neighbours, length-points, points-bytes, points-distinct}
use Rattle.lagrange.specs.Steps.{unit}
use Rattle.decode_laws.specs.Steps.{cell, sums, seeds, seed_rows, by_rows, by_columns, turned, parts, stripe_by}
use Rattle.decode_laws.proofs.Sums.{sum_below}
use Rattle.decode_laws.proofs.Rows.{join-at, cell-fit, sums-through, length-sums, sums_at, sums-ext}
use Rattle.decode_laws.proofs.Mixed.{mixed-rows}

-- ---- f and g of any bytes

module _ (z : Sizes) (xs : List ℕ) (legal : Legal z) (b : ℕ) (w : List ℕ) (lw : length w ≡ α z) where
  open z use {n, k, d, r}

  pub length-f : length (take (d + r) w) ≡ d + r
  length-f = length-take-le (d + r) w (omega (arith, α-parts z legal))

  pub length-g : length (take 1 w ++ drop (d + r) w) ≡ d
  length-g =
      let one : length (take 1 w) ≡ 1 = length-take-le 1 w (omega (arith, α-parts z legal, legal.some-fresh)) in
      length-append (take 1 w) (drop (d + r) w) ∙ ap₂ ◌+◌ one (length-drop (d + r) w)
      ∙ omega (arith, α-parts z legal, legal.some_read, legal.read-helpers)

  near : (c : ℕ) → length (points xs (neighbours z b c)) ≡ c
  near c = length-points xs (neighbours z b c) ∙ length-neighbours z b c

  pub length-own-f : length (own_f z xs b w) ≡ d + r
  unfolding own_f
  length-own-f = length-interpolate (points xs (neighbours z b (d + r))) (take (d + r) w) (near (d + r) ∙ sym length-f) ∙ near (d + r)

  pub length-own-g : length (own_g z xs b w) ≡ d
  unfolding own_g
  length-own-g = length-interpolate (points xs (neighbours z b d)) (take 1 w ++ drop (d + r) w) (near d ∙ sym length-g) ∙ near d

  module _ (bw : Bytes w) where
    pub f-bytes : Bytes (take (d + r) w)
    f-bytes = take-alls (λ a. a < 256) (d + r) w bw

    pub g-bytes : Bytes (take 1 w ++ drop (d + r) w)
    g-bytes = append-all (λ a. a < 256) (take 1 w) (drop (d + r) w) (take-alls (λ a. a < 256) 1 w bw) (drop-alls (λ a. a < 256) (d + r) w bw)

    pub own-f-bytes : Bytes (own_f z xs b w)
    unfolding own_f
    own-f-bytes = interpolate-bytes (points xs (neighbours z b (d + r))) (take (d + r) w) f-bytes

    pub own-g-bytes : Bytes (own_g z xs b w)
    unfolding own_g
    own-g-bytes = interpolate-bytes (points xs (neighbours z b d)) (take 1 w ++ drop (d + r) w) g-bytes

-- ---- the stripe

no_more : (a b : ℕ) → b ≡ 0 → add a b ≡ a
no_more a b e = ap (add a) e ∙ add_zero_r a

module _ (z : Sizes) (xs : List ℕ) (legal : Legal z) (pts : DifferentPoints z xs) (bs : List ℕ) (boards : Boards z bs) (lb : length bs ≡ z.k)
    (w : ℕ → List ℕ) (lw : (t : ℕ) → t < z.k → length (w t) ≡ α z) (bw : (t : ℕ) → t < z.k → Bytes (w t))
    (tops : List ℕ) (tops-at : (i t : ℕ) → i < z.d - z.k → t < z.k → get_or tops (i * z.k + t) 0 ≡ get_or (own_g z xs (get_or bs t 0) (w t)) (z.k + i) 0) where
  open z use {n, k, d, r}

  abbrev ps : List ℕ
  ps = points xs bs

  abbrev f : ℕ → List ℕ
  f t = own_f z xs (get_or bs t 0) (w t)

  abbrev g : ℕ → List ℕ
  g t = own_g z xs (get_or bs t 0) (w t)

  abbrev e : List ℕ
  e = seed_rows d ps

  abbrev F : List ℕ
  F = join k (λ t. fit 32 (f t))

  lp : length ps ≡ k
  lp = length-points xs bs ∙ lb

  bp : Bytes ps
  bp = points-bytes z xs pts bs boards

  dp : Distinct ps
  dp = points-distinct z xs pts bs boards

  kd : k ≤ d
  kd = legal.read-helpers

  d32 : d < 32
  d32 = omega (arith, legal.some-fresh, legal.enough, legal.few)

  e-at : (s j : ℕ) → s < d → j < 32 → cell e s j ≡ get_or (interpolate ps (seeds ps s)) j 0
  unfolding seed_rows
  e-at s j hs hj = cell-fit d (λ s. interpolate ps (seeds ps s)) s j hs hj

  e-unit : (s j : ℕ) → s < length ps → j < 32 → cell e s j ≡ get_or (interpolate ps (unit (length ps) s)) j 0
  e-unit s j hs hj =
      e-at s j (omega (arith, lp, kd)) hj ∙ ap (λ q. get_or (interpolate ps (pick q (unit (length ps) s) (map (λ x. power x s) ps))) j 0) (lt-ltb s (length ps) hs)

  f-cell : (s j : ℕ) → s < k → j < 32 → cell F s j ≡ get_or (f s) j 0
  f-cell s j hs hj = cell-fit k f s j hs hj

  -- row k + i
  low-row : (i : ℕ) → i < d - k → sums k (λ s. get_or tops (i * k + s) 0) e ≡ fit 32 (c_row z xs bs w (k + i))
  unfolding c_row through
  low-row i h =
      sums-ext k _ (λ t. get_or (g t) (k + i) 0) e e (λ s hs. tops-at i s h hs) (λ s j hs hj. refl)
      ∙ ap (λ (m : ℕ). sums m (λ t. get_or (g t) (k + i) 0) e) (sym lp)
      ∙ sums-through ps bp dp e e-unit (λ t. get_or (g t) (k + i) 0)
      (tabulate-all (λ a. a < 256) (length ps) _ (λ t ht. byte_at (g t) (own-g-bytes z xs legal (get_or bs t 0) (w t) (lw t (omega (arith, lp))) (bw t (omega (arith, lp)))) (k + i)))
      ∙ ap (λ (m : ℕ). fit 32 (interpolate ps (tabulate m (λ t. get_or (g t) (k + i) 0)))) lp

  abbrev low : List ℕ
  low = by_rows (d - k) k tops e

  low-is : low ≡ join (d - k) (λ i. fit 32 (c_row z xs bs w (k + i)))
  unfolding by_rows
  low-is = join-ext (d - k) _ (λ i. fit 32 (c_row z xs bs w (k + i))) (λ i h. low-row i h)

  length-F : length F ≡ k * 32
  length-F = length-join k 32 (λ t. fit 32 (f t)) (λ t h. length-fit 32 (f t))

  -- column j: of f first, then of the rows from k on
  β : ℕ → ℕ → ℕ
  β j s = pick (ltb s k) (get_or (f s) j 0) (get_or (c_row z xs bs w s) j 0)

  β-low : (j s : ℕ) → s < k → β j s ≡ get_or (f s) j 0
  unfolding β
  β-low j s h = ap (λ q. pick q (get_or (f s) j 0) (get_or (c_row z xs bs w s) j 0)) (lt-ltb s k h)

  β-high : (j i : ℕ) → β j (k + i) ≡ get_or (c_row z xs bs w (k + i)) j 0
  unfolding β
  β-high j i = ap (λ q. pick q (get_or (f (k + i)) j 0) (get_or (c_row z xs bs w (k + i)) j 0)) (le-ltb (k + i) k (omega arith))

  c-bytes : (s : ℕ) → s < d → Bytes (c_row z xs bs w s)
  unfolding c_row through
  c-bytes s h =
      interpolate-bytes ps (tabulate k (λ t. get_or (g t) s 0))
      (tabulate-all (λ a. a < 256) k _ (λ t ht. byte_at (g t) (own-g-bytes z xs legal (get_or bs t 0) (w t) (lw t ht) (bw t ht)) s))

  β-byte : (j s : ℕ) → s < d → β j s < 256
  unfolding β
  β-byte j s h = go (dec_lt s k)
    where
      go : Dec (s < k) → β j s < 256
      go (yes l) = rw (lt-ltb s k l) (byte_at (f s) (own-f-bytes z xs legal (get_or bs s 0) (w s) (lw s l) (bw s l)) j)
      go (no l) = rw (le-ltb s k (omega arith)) (byte_at (c_row z xs bs w s) (c-bytes s h) j)

  -- its byte in the rows of both
  both_at : (s j : ℕ) → s < d → j < 32 → cell (F ++ low) s j ≡ β j s
  both_at s j hs hj = go (dec_lt s k)
    where
      go : Dec (s < k) → cell (F ++ low) s j ≡ β j s
      go (yes l) =
          get_or-append F low 0 (s * 32 + j) (omega (arith, length-F)) ∙ f-cell s j l hj ∙ sym (β-low j s l)
      go (no l) =
          let i : ℕ = s - k in
          let q : s * 32 + j ≡ k * 32 + (i * 32 + j) = omega arith in
          let v : k + i ≡ s = omega arith in
          ap (λ (m : ℕ). get_or (F ++ low) m 0) (q ∙ ap (λ (m : ℕ). m + (i * 32 + j)) (sym length-F))
          ∙ get_or-append-add F low (i * 32 + j) 0 ∙ ap (λ (l : List ℕ). cell l i j) low-is
          ∙ cell-fit (d - k) (λ i. c_row z xs bs w (k + i)) i j (omega arith) hj ∙ sym (β-high j i) ∙ ap (β j) v

  abbrev columns : List ℕ
  columns = by_columns (d + r) 0 d (F ++ low) e

  abbrev column : ℕ → List ℕ
  column j = sums d (λ s. cell (F ++ low) s (0 + j)) e

  -- what column j takes from c
  abbrev γ : ℕ → ℕ → List ℕ
  γ m j = replicate m 0 ++ tabulate (d - m) (λ i. β j (m + i))

  column-at : (i j : ℕ) → i < k → j < 32 → get_or (column j) i 0 ≡ get_or (interpolate ps (tabulate k (λ t. add (β j t) (eval (γ k j) (get_or ps t 0))))) i 0
  column-at i j hi hj =
      sums_at d (λ s. cell (F ++ low) s (0 + j)) e i (omega (arith, kd, d32))
      ∙ sum_below d _ (λ s. mul (get_or (interpolate ps (seeds ps s)) i 0) (β j s))
      (λ s hs. ap₂ mul (ap (cell (F ++ low) s) (zero-add j) ∙ both_at s j hs hj) (e-at s i hs (omega (arith, kd, d32))) ∙ mul_comm (β j s) _)
      ∙ mixed-rows ps bp dp d (omega (arith, lp, kd)) (β j) (β-byte j) i
      ∙ ap (λ (m : ℕ). get_or (interpolate ps (tabulate m (λ t. add (β j t) (eval (γ m j) (get_or ps t 0))))) i 0) lp

  point_at : (t : ℕ) → t < k → get_or ps t 0 ≡ point xs (get_or bs t 0)
  point_at t h = map_at (point xs) bs t (omega (arith, lb))

  a-column : (i j : ℕ) → i < k → j < k → get_or (column j) i 0 ≡ get_or (a_column z xs bs w j) i 0
  unfolding a_column through
  a-column i j hi hj =
      column-at i j hi (omega (arith, kd, d32))
      ∙ ap (λ (l : List ℕ). get_or (interpolate ps l) i 0)
      (tabulate-ext k _ _ (λ t ht. ap₂ add (β-low j t ht)
      (ap₂ (λ (l : List ℕ) (y : ℕ). eval l y) (ap (λ (l : List ℕ). replicate k 0 ++ l) (tabulate-ext (d - k) _ _ (λ i h. β-high j i))) (point_at t ht))))

  -- past k the c add nothing
  c-past : (s j : ℕ) → k ≤ j → get_or (c_row z xs bs w s) j 0 ≡ 0
  unfolding c_row through
  c-past s j h =
      get_or-eq_default (interpolate ps (tabulate k (λ t. get_or (g t) s 0))) 0
      (omega (arith, length-interpolate ps (tabulate k (λ t. get_or (g t) s 0)) (lp ∙ sym (length-tabulate k (λ t. get_or (g t) s 0))), lp))

  zeros-at : (i m : ℕ) → get_or {A = ℕ} (replicate m 0) i 0 ≡ 0
  zeros-at i zero = refl
  zeros-at zero (suc m) = refl
  zeros-at (suc i) (suc m) = zeros-at i m

  γ-none : (j i : ℕ) → k ≤ j → get_or (γ k j) i 0 ≡ 0
  γ-none j i h = go (dec_lt i k) (dec_lt i d)
    where
      go : Dec (i < k) → Dec (i < d) → get_or (γ k j) i 0 ≡ 0
      go (yes l) q = get_or-append (replicate k 0) (tabulate (d - k) (λ i. β j (k + i))) 0 i (omega (arith, length-replicate {A = ℕ} k 0)) ∙ zeros-at i k
      go (no l) (yes q) =
          let v : i ≡ k + (i - k) = omega arith in
          ap (λ (m : ℕ). get_or (γ k j) m 0) (v ∙ ap (λ (m : ℕ). m + (i - k)) (sym (length-replicate {A = ℕ} k 0)))
          ∙ get_or-append-add (replicate k 0) (tabulate (d - k) (λ i. β j (k + i))) (i - k) 0
          ∙ tabulate-at (d - k) (λ i. β j (k + i)) 0 (i - k) (omega arith) ∙ β-high j (i - k) ∙ c-past (k + (i - k)) j h
      go (no l) (no q) =
          get_or-eq_default (γ k j) 0
          (omega (arith, length-append (replicate k 0) (tabulate (d - k) (λ i. β j (k + i))), length-replicate {A = ℕ} k 0, length-tabulate (d - k) (λ i. β j (k + i)), kd))

  b-column : (i j : ℕ) → i < k → k ≤ j → j < 32 → get_or (column j) i 0 ≡ get_or (b_column z xs bs w j) i 0
  unfolding b_column through
  b-column i j hi hj lj =
      column-at i j hi lj
      ∙ ap (λ (l : List ℕ). get_or (interpolate ps l) i 0)
      (tabulate-ext k _ _ (λ t ht. no_more (β j t) _ (eval-zero (γ k j) (get_or ps t 0) (λ i. γ-none j i hj)) ∙ β-low j t ht))

  w32 : d + r ≤ 32
  w32 = omega (arith, legal.enough, legal.few)

  columns-at : (i j : ℕ) → i < k → j < d + r → cell columns j i ≡ get_or (column j) i 0
  unfolding by_columns
  columns-at i j hi hj = join-at (d + r) 32 column (λ j q. length-sums d (λ s. cell (F ++ low) s (0 + j)) e) j i hj (omega (arith, kd, d32))

  a-part : turned k 0 k columns ≡ join k (λ i. tabulate k (λ j. get_or (a_column z xs bs w j) i 0))
  unfolding turned
  a-part =
      join-ext k _ _ (λ i hi. tabulate-ext k _ _ (λ j hj.
      ap (λ (m : ℕ). cell columns m i) (zero-add j) ∙ columns-at i j hi (omega (arith, kd)) ∙ a-column i j hi hj))

  b-part : turned k k (d + r - k) columns ≡ join k (λ i. tabulate (d + r - k) (λ j. get_or (b_column z xs bs w (k + j)) i 0))
  unfolding turned
  b-part =
      join-ext k _ _ (λ i hi. tabulate-ext (d + r - k) _ _ (λ j hj.
      columns-at i (k + j) hi (omega arith) ∙ b-column i (k + j) hi (omega arith) (omega (arith, w32))))

  length-c : (s : ℕ) → length (c_row z xs bs w s) ≡ k
  unfolding c_row through
  length-c s = length-interpolate ps (tabulate k (λ t. get_or (g t) s 0)) (lp ∙ sym (length-tabulate k (λ t. get_or (g t) s 0))) ∙ lp

  c-part : parts (d - k) 0 k low ≡ join (d - k) (λ i. c_row z xs bs w (k + i))
  unfolding parts
  c-part =
      join-ext (d - k) _ _ (λ i hi. ap (take k) (ap (piece 32 i) low-is
      ∙ piece-join (d - k) 32 (λ i. fit 32 (c_row z xs bs w (k + i))) (λ i q. length-fit 32 (c_row z xs bs w (k + i))) i hi)
      ∙ ap (λ (m : ℕ). take m (fit 32 (c_row z xs bs w (k + i)))) (sym (length-c (k + i)))
      ∙ take-fit 32 (c_row z xs bs w (k + i)) (omega (arith, length-c (k + i), kd, d32)))

  -- the stripe
  pub stripe-by : stripe_by k d (d + r) e F tops ≡ decoded_stripe z xs bs w
  unfolding stripe_by decoded_stripe
  stripe-by = ap₂ {C = List ℕ} (λ x y. x ++ y) (ap₂ {C = List ℕ} (λ x y. x ++ y) a-part b-part) c-part
