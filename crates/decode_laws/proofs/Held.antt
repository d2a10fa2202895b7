-- What boards hold of a stripe, wherever their bytes start: as rows, and the values and coefficients of their f and g from these.
-- Assumes nothing.
use mathlib.Core.Path.{◌≡◌, sym, ap, ap₂, ◌∙◌}
use mathlib.Core.List.{List, ◌++◌}
use Prim.Native.Nat.{ℕ, ◌+◌, ◌*◌, ◌-◌, ◌<◌, ◌≤◌}
use native.Mathlib.Nat.{suc-mul, mul-le-mul_right}
use native.Mathlib.Numerals.{add-one}
use native.Mathlib.Omega.{arith}
use lib.Dec.{eqb}
use lib.ListN.{length, get_or, take, drop, length-drop, get_or-append}
use lib.Seq.{length-take-le}
use Rattle.lists.specs.Tests.{alls}
use Rattle.lists.specs.Lists.{All, Bytes, tabulate, join, fit}
use Rattle.lists.proofs.Alls.{all-imp, all-at, take-alls, drop-alls}
use Rattle.lists.proofs.Pieces.{length-join, length-fit, length-tabulate, tabulate-at, tabulate-ext}
use Rattle.sizes.specs.declared.Sizes.{Sizes}
use Rattle.sizes.specs.Sizing.{α}
use Rattle.sizes.proofs.Legal.{Legal, α-parts, α-most, row_fits}
use Rattle.polynomial.specs.Polynomial.{eval}
use Rattle.mbcr.specs.Share.{DifferentPoints, point, points}
use Rattle.mbcr.specs.Rebuild.{own_f, own_g}
use Rattle.mbcr.proofs.Points.{Boards}
use Rattle.decode_laws.specs.Steps.{f_row, g_row, value_at, values_of, board_meets, boards_meet, factor_rows, unit_rows, by_rows, top_rows, tops_of, meets, pairs_meet, held_at, Placed}
use Rattle.decode_laws.proofs.Rows.{join-at}
use Rattle.decode_laws.proofs.Stripe.{length-f, length-g, f-bytes, g-bytes}
use Rattle.decode_laws.proofs.Coefs.{length-factors, values-are, coefs-are, tops_are}

pub length-factor-rows : (z : Sizes) (xs : List ℕ) (c : ℕ) (bs : List ℕ) → length (factor_rows z xs c bs) ≡ length bs * ((z.n - c) * 32)
length-factor-rows z xs c bs = length-join (length bs) ((z.n - c) * 32) _ (λ t h. length-factors z xs c (get_or bs t 0))

-- lengths of rows and values
rows_long : (m : ℕ) (f : ℕ → List ℕ) (l : List ℕ) → l ≡ join m (λ t. fit 32 (f t)) → length l ≡ m * 32
rows_long m f l e = ap length e ∙ length-join m 32 (λ t. fit 32 (f t)) (λ t h. length-fit 32 (f t))

pub f-long : (starts bytes : List ℕ) (c a at : ℕ) (fs : List ℕ) → fs ≡ join (length starts) (λ t. f_row c (take a (drop (get_or starts t 0 + at) bytes))) → length fs ≡ length starts * 32
f-long starts bytes c a at fs e = rows_long (length starts) (λ t. take c (take a (drop (get_or starts t 0 + at) bytes))) fs e

pub g-long : (starts bytes : List ℕ) (c a at : ℕ) (gs : List ℕ) → gs ≡ join (length starts) (λ t. g_row c (take a (drop (get_or starts t 0 + at) bytes))) → length gs ≡ length starts * 32
g-long starts bytes c a at gs e =
    rows_long (length starts) (λ t. let q : List ℕ = take a (drop (get_or starts t 0 + at) bytes) in take 1 q ++ drop c q) gs e

pub length-values : (n c m : ℕ) (bs targets factors rows : List ℕ) → length (values_of n c m bs targets factors rows) ≡ length bs * length targets
unfolding values_of
length-values n c m bs targets factors rows = length-join (length bs) (length targets) _ (λ t h. length-tabulate (length targets) _)

-- the values of boards at each other meet: taken one by one, or all of them
values-meet : (n d w p m : ℕ) (bs ff gf fs gs : List ℕ) → boards_meet n d w p m bs ff gf fs gs ≡ meets (length bs) (values_of n w m bs bs ff fs) (values_of n d p bs bs gf gs)
unfolding boards_meet board_meets meets values_of
values-meet n d w p m bs ff gf fs gs =
    let k : ℕ = length bs in
    ap alls (tabulate-ext k _ _ (λ i hi. ap alls (tabulate-ext k _ _ (λ j hj.
    ap₂ eqb (sym (at k (value_at n w m bs bs ff fs) i j hi hj)) (sym (at k (value_at n d p bs bs gf gs) j i hj hi))))))
  where
    at : (k : ℕ) (f : ℕ → ℕ → ℕ) (i j : ℕ) → i < k → j < k → get_or (join k (λ t. tabulate k (f t))) (i * k + j) 0 ≡ f i j
    at k f i j hi hj = join-at k k (λ t. tabulate k (f t)) (λ t h. length-tabulate k (f t)) i j hi hj ∙ tabulate-at k (f i) 0 j hj

-- stripe s starts not too far behind
pub at-few : (z : Sizes) → Legal z → (s : ℕ) → s < 4096 → s * (z.d + z.r + (z.d - 1)) ≤ 253952
at-few z legal s h =
    let e : z.d + z.r + (z.d - 1) ≡ α z = α-parts z legal in
    let p : s * (z.d + z.r + (z.d - 1)) ≤ 4096 * (z.d + z.r + (z.d - 1)) = mul-le-mul_right (z.d + z.r + (z.d - 1)) (omega arith) in
    omega (arith, α-most z legal)

module _ (z : Sizes) (legal : Legal z) (starts bytes : List ℕ) (s : ℕ) (placed : Placed z starts bytes (s + 1)) where
  open z use {n, k, d, r}

  one_more : (s + 1) * α z ≡ s * α z + α z
  one_more = ap (λ (m : ℕ). m * α z) (add-one s) ∙ suc-mul s (α z)

  pub placed-part : All (λ p. p + s * (d + r + (d - 1)) + (d + r + (d - 1)) ≤ length bytes) starts
  placed-part =
      rw (α-parts z legal) (all-imp (λ p. p + (s + 1) * α z ≤ length bytes) (λ p. p + s * α z + α z ≤ length bytes) (λ p h. omega (arith, one_more)) starts placed)

  held-long : (t : ℕ) → t < length starts → get_or starts t 0 + s * α z + α z ≤ length bytes
  held-long t h =
      all-at (λ p. p + s * α z + α z ≤ length bytes) 0 starts
      (all-imp (λ p. p + (s + 1) * α z ≤ length bytes) (λ p. p + s * α z + α z ≤ length bytes) (λ p h. omega (arith, one_more)) starts placed) t h

  pub length-held : (t : ℕ) → t < length starts → length (held_at z starts bytes s t) ≡ α z
  unfolding held_at
  length-held t h =
      length-take-le (α z) (drop (get_or starts t 0 + s * α z) bytes) (omega (arith, length-drop (get_or starts t 0 + s * α z) bytes, held-long t h))

pub held_bytes : (z : Sizes) (starts bytes : List ℕ) (s t : ℕ) → Bytes bytes → Bytes (held_at z starts bytes s t)
unfolding held_at
held_bytes z starts bytes s t b = take-alls (λ a. a < 256) (α z) _ (drop-alls (λ a. a < 256) (get_or starts t 0 + s * α z) bytes b)

module _ (z : Sizes) (xs : List ℕ) (legal : Legal z) (pts : DifferentPoints z xs) (bs : List ℕ) (known : All (λ i. i < z.n) bs) (lb : length bs ≡ z.k)
    (starts bytes : List ℕ) (ls : length starts ≡ z.k) (s : ℕ) (placed : Placed z starts bytes (s + 1)) (bb : Bytes bytes) where
  open z use {n, k, d, r}

  abbrev w : ℕ → List ℕ
  w = held_at z starts bytes s

  lw : (t : ℕ) → t < length bs → length (w t) ≡ α z
  lw t h = length-held z legal starts bytes s placed t (omega arith)

  bw : (t : ℕ) → Bytes (w t)
  bw t = held_bytes z starts bytes s t bb

  a : ℕ
  a = d + r + (d - 1)

  -- the rows, as they are made
  f-rows : (fs : List ℕ) → fs ≡ join (length starts) (λ t. f_row (d + r) (take (d + r + (d - 1)) (drop (get_or starts t 0 + s * (d + r + (d - 1))) bytes)))
      → fs ≡ join (length bs) (λ t. fit 32 (take (d + r) (w t)))
  unfolding held_at
  f-rows fs e =
      e ∙ ap₂ (λ (m q : ℕ). join m (λ t. f_row (d + r) (take q (drop (get_or starts t 0 + s * q) bytes)))) (ls ∙ sym lb) (α-parts z legal)

  g-rows : (gs : List ℕ) → gs ≡ join (length starts) (λ t. g_row (d + r) (take (d + r + (d - 1)) (drop (get_or starts t 0 + s * (d + r + (d - 1))) bytes)))
      → gs ≡ join (length bs) (λ t. fit 32 (take 1 (w t) ++ drop (d + r) (w t)))
  unfolding held_at
  g-rows gs e =
      e ∙ ap₂ (λ (m q : ℕ). join m (λ t. g_row (d + r) (take q (drop (get_or starts t 0 + s * q) bytes)))) (ls ∙ sym lb) (α-parts z legal)

  w-few : d + r ≤ 32
  w-few = omega (arith, legal.enough, legal.few)

  d-few : d ≤ 32
  d-few = omega (arith, legal.enough, legal.few)

  module _ (ff fs : List ℕ) (ef : ff ≡ factor_rows z xs (d + r) bs)
      (es : fs ≡ join (length starts) (λ t. f_row (d + r) (take (d + r + (d - 1)) (drop (get_or starts t 0 + s * (d + r + (d - 1))) bytes)))) (m : ℕ) (lm : d + r ≤ m) (hm : m ≤ 32) where
    pub f-values : (targets : List ℕ) → All (λ i. i < n) targets
        → values_of n (d + r) m bs targets ff fs ≡ join (length bs) (λ t. tabulate (length targets) (λ i. eval (own_f z xs (get_or bs t 0) (w t)) (point xs (get_or targets i 0))))
    unfolding own_f
    f-values targets kt =
        ap₂ (values_of n (d + r) m bs targets) ef (f-rows fs es)
        ∙ values-are z xs pts bs known (d + r) legal.enough w-few (λ t. take (d + r) (w t)) (λ t h. length-f z xs legal (get_or bs t 0) (w t) (lw t h))
        (λ t h. f-bytes z xs legal (get_or bs t 0) (w t) (lw t h) (bw t))
        m lm hm targets kt

    pub f-coefs : (C : List ℕ) → Boards z C → length C ≡ d + r
        → by_rows (length bs) (d + r) (values_of n (d + r) m bs C ff fs) (unit_rows (points xs C)) ≡ join (length bs) (λ t. fit 32 (own_f z xs (get_or bs t 0) (w t)))
    unfolding own_f
    f-coefs C boards l_c =
        ap₂ (λ (p q : List ℕ). by_rows (length bs) (d + r) (values_of n (d + r) m bs C p q) (unit_rows (points xs C))) ef (f-rows fs es)
        ∙ coefs-are z xs pts bs known (d + r) legal.enough w-few (λ t. take (d + r) (w t)) (λ t h. length-f z xs legal (get_or bs t 0) (w t) (lw t h))
        (λ t h. f-bytes z xs legal (get_or bs t 0) (w t) (lw t h) (bw t))
        C boards l_c m lm hm

  module _ (gf gs : List ℕ) (ef : gf ≡ factor_rows z xs d bs)
      (es : gs ≡ join (length starts) (λ t. g_row (d + r) (take (d + r + (d - 1)) (drop (get_or starts t 0 + s * (d + r + (d - 1))) bytes)))) (m : ℕ) (lm : d ≤ m) (hm : m ≤ 32) where
    pub g-values : (targets : List ℕ) → All (λ i. i < n) targets
        → values_of n d m bs targets gf gs ≡ join (length bs) (λ t. tabulate (length targets) (λ i. eval (own_g z xs (get_or bs t 0) (w t)) (point xs (get_or targets i 0))))
    unfolding own_g
    g-values targets kt =
        ap₂ (values_of n d m bs targets) ef (g-rows gs es)
        ∙ values-are z xs pts bs known d (omega (arith, legal.enough)) d-few (λ t. take 1 (w t) ++ drop (d + r) (w t)) (λ t h. length-g z xs legal (get_or bs t 0) (w t) (lw t h))
        (λ t h. g-bytes z xs legal (get_or bs t 0) (w t) (lw t h) (bw t))
        m lm hm targets kt

    -- the coefficients of X^k and on, whatever stands behind the values
    pub g-tops : (C : List ℕ) → Boards z C → length C ≡ d → (vals rest : List ℕ) → vals ≡ values_of n d m bs C gf gs
        → (i t : ℕ) → i < d - k → t < k → get_or (tops_of (d - k) k d m (top_rows k (points xs C)) (vals ++ rest)) (i * k + t) 0 ≡ get_or (own_g z xs (get_or bs t 0) (w t)) (k + i) 0
    unfolding own_g
    g-tops C boards l_c vals rest ev i t hi ht =
        ap (λ (q : ℕ). get_or (tops_of (d - k) q d m (top_rows k (points xs C)) (vals ++ rest)) (i * q + t) 0) (sym lb)
        ∙ tops_are z xs pts bs known d (omega (arith, legal.enough)) d-few (λ t. take 1 (w t) ++ drop (d + r) (w t)) (λ t h. length-g z xs legal (get_or bs t 0) (w t) (lw t h))
        (λ t h. g-bytes z xs legal (get_or bs t 0) (w t) (lw t h) (bw t))
        C boards l_c k m lm hm (vals ++ rest) value i t hi (omega arith)
      where
        v : ℕ → ℕ → ℕ
        v t i = eval (own_g z xs (get_or bs t 0) (w t)) (point xs (get_or C i 0))

        all : vals ≡ join (length bs) (λ t. tabulate d (v t))
        all = ev ∙ g-values C boards.known ∙ ap (λ (q : ℕ). join (length bs) (λ t. tabulate q (v t))) l_c

        value : (t i : ℕ) → t < length bs → i < d → get_or (vals ++ rest) (t * d + i) 0 ≡ v t i
        value t i ht hi =
            let l : length vals ≡ length bs * d = ap length all ∙ length-join (length bs) d (λ t. tabulate d (v t)) (λ t h. length-tabulate d (v t)) in
            get_or-append vals rest 0 (t * d + i) (omega (arith, row_fits t (length bs) d ht))
            ∙ ap (λ (q : List ℕ). get_or q (t * d + i) 0) all
            ∙ join-at (length bs) d (λ t. tabulate d (v t)) (λ t h. length-tabulate d (v t)) t i ht hi ∙ tabulate-at d (v t) 0 i hi

  -- the pairs, from the values
  meets-made : (fv gv : List ℕ) → fv ≡ join (length bs) (λ t. tabulate (length bs) (λ i. eval (own_f z xs (get_or bs t 0) (w t)) (point xs (get_or bs i 0))))
      → gv ≡ join (length bs) (λ t. tabulate (length bs) (λ i. eval (own_g z xs (get_or bs t 0) (w t)) (point xs (get_or bs i 0)))) → meets k fv gv ≡ pairs_meet z xs bs w
  unfolding pairs_meet
  meets-made fv gv ef eg =
      ap₂ (meets k) (ef ∙ ap (λ (q : ℕ). join q (λ t. tabulate q (λ i. eval (own_f z xs (get_or bs t 0) (w t)) (point xs (get_or bs i 0))))) lb)
      (eg ∙ ap (λ (q : ℕ). join q (λ t. tabulate q (λ i. eval (own_g z xs (get_or bs t 0) (w t)) (point xs (get_or bs i 0))))) lb)

  pub pairs_made : (ff gf fs gs : List ℕ) → ff ≡ factor_rows z xs (d + r) bs → gf ≡ factor_rows z xs d bs
      → fs ≡ join (length starts) (λ t. f_row (d + r) (take (d + r + (d - 1)) (drop (get_or starts t 0 + s * (d + r + (d - 1))) bytes)))
      → gs ≡ join (length starts) (λ t. g_row (d + r) (take (d + r + (d - 1)) (drop (get_or starts t 0 + s * (d + r + (d - 1))) bytes)))
      → (p m : ℕ) → d ≤ p → p ≤ 32 → d + r ≤ m → m ≤ 32 → boards_meet n d (d + r) p m bs ff gf fs gs ≡ pairs_meet z xs bs w
  pairs_made ff gf fs gs ef eg es et p m lp hp lm hm =
      values-meet n d (d + r) p m bs ff gf fs gs
      ∙ ap (λ (k : ℕ). meets k (values_of n (d + r) m bs bs ff fs) (values_of n d p bs bs gf gs)) lb
      ∙ meets-made _ _ (f-values ff fs ef es m lm hm bs known) (g-values gf gs eg et p lp hp bs known)

-- fewer stripes
pub placed-before : (z : Sizes) (starts bytes : List ℕ) (s S : ℕ) → s ≤ S → Placed z starts bytes S → Placed z starts bytes s
placed-before z starts bytes s S h placed =
    let q : s * α z ≤ S * α z = mul-le-mul_right (α z) h in
    all-imp (λ p. p + S * α z ≤ length bytes) (λ p. p + s * α z ≤ length bytes) (λ p k. omega arith) starts placed
