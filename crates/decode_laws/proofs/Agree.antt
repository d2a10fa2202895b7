-- Whether shares are those of a file: the pairs of boards meet in each stripe, and the padding of the last one is 00.
-- Assumes nothing.
use mathlib.Core.Path.{◌≡◌, refl, sym, ap, ap₂, ◌∙◌}
use mathlib.Core.Logic.{◌↔◌}
use mathlib.Core.Bool.{Bool, true, false}
use mathlib.Core.List.{List, [], ◌∷◌, ◌++◌}
use Prim.Native.Nat.{ℕ, zero, suc, ◌+◌, ◌*◌, ◌-◌, ◌/◌, ◌<◌, ◌≤◌}
use native.Mathlib.Nat.{div-add-mod', mod-lt, mul-le-mul_right}
use native.Mathlib.Decide.{dec_lt}
use native.Mathlib.Omega.{arith}
use lib.Dec.{eqb, ltb}
use lib.ListN.{length, get_or, take, drop, drop_of_length-le}
use borrow.Author.Tests.{eqb-true, eq-eqb, lt-ltb, le-ltb}
use Rattle.lists.specs.Tests.{pick, alls, same}
use Rattle.lists.specs.Lists.{Bytes, tabulate, join, fit}
use Rattle.lists.proofs.Alls.{all-at, take-alls}
use Rattle.lists.proofs.Boards.{all-below, distinct-different}
use Rattle.lists.proofs.Tests.{both, every-all, all-every, same-eq, same_refl}
use Rattle.lists.proofs.Pieces.{length-tabulate, tabulate-at, tabulate-all, tabulate-ext, join-ext, length-fit, fit-bytes}
use Rattle.gf256.specs.Field.{add}
use Rattle.sizes.specs.declared.Sizes.{Sizes}
use Rattle.sizes.specs.Sizing.{legal, α, B, stripes}
use Rattle.sizes.proofs.Legal.{Legal, legal-yes, stripes-least, B-pos, row_fits}
use Rattle.polynomial.specs.Polynomial.{eval, interpolate}
use Rattle.mbcr.specs.Share.{DifferentPoints, point, points, kept}
use Rattle.mbcr.specs.Rebuild.{own_f, own_g}
use Rattle.mbcr.specs.Read.{through, a_column, b_column, c_row, decoded_stripe}
use Rattle.mbcr.proofs.Points.{Boards}
use Rattle.mbcr.proofs.Decode.{length-decoded, decoded-bytes, decoded-true}
use Rattle.decode_agree.specs.Steps.{Pairs, Kept}
use Rattle.decode_agree.proofs.Pairs.{pairs-agree}
use Rattle.decode_laws.specs.Steps.{meets, pairs_meet, zeros, board_agrees, stripe_agrees, stripe_reads}
use Rattle.decode_laws.proofs.Rows.{join-at}

-- ---- tests

pub alls-true : (n : ℕ) (q : ℕ → Bool) → alls (tabulate n q) ≡ true → (i : ℕ) → i < n → q i ≡ true
alls-true n q h i l =
    sym (tabulate-at n q true i l) ∙ all-at (λ b. b ≡ true) true (tabulate n q) (every-all (λ b. b) (tabulate n q) h) i (rw (length-tabulate n q) l)

pub true-alls : (n : ℕ) (q : ℕ → Bool) → ((i : ℕ) → i < n → q i ≡ true) → alls (tabulate n q) ≡ true
true-alls n q h = all-every (λ b. b) (tabulate n q) (tabulate-all (λ b. b ≡ true) n q h)

pub same_truth : (a b : Bool) → (a ≡ true → b ≡ true) → (b ≡ true → a ≡ true) → a ≡ b
same_truth true b f g = sym (f refl)
same_truth false true f g = g refl
same_truth false false f g = refl

pub both_true : (a b : Bool) → a ≡ true → b ≡ true → pick a b false ≡ true
both_true a b e f = ap (λ (q : Bool). pick q b false) e ∙ f

-- ---- bytes that are 00 behind

none_left : (l : List ℕ) → zeros l ≡ true → fit (length l) [] ≡ l
none_left [] h = refl
none_left (x ∷ l) h =
    let e = both (eqb x 0) (zeros l) h in
    ap₂ {C = List ℕ} (λ a b. a ∷ b) (sym (eqb-true x 0 e.0)) (none_left l e.1)

zeros-fit : (m : ℕ) (l : List ℕ) → zeros (drop m l) ≡ true → fit (length l) (take m l) ≡ l
zeros-fit zero l h = none_left l h
zeros-fit (suc m) [] h = refl
zeros-fit (suc m) (x ∷ l) h = ap {B = List ℕ} (λ l. x ∷ l) (zeros-fit m l h)

left-none : (l : List ℕ) → fit (length l) [] ≡ l → zeros l ≡ true
left-none [] e = refl
left-none (x ∷ l) e =
    both_true (eqb x 0) (zeros l) (eq-eqb x 0 (sym (ap (λ (l : List ℕ). get_or l 0 0) e))) (left-none l (ap (drop 1) e))

fit-zeros : (m : ℕ) (l : List ℕ) → fit (length l) (take m l) ≡ l → zeros (drop m l) ≡ true
fit-zeros zero l e = left-none l e
fit-zeros (suc m) [] e = refl
fit-zeros (suc m) (x ∷ l) e = fit-zeros m l (ap (drop 1) e)

-- ---- only the bytes of the k boards count

module _ (z : Sizes) (xs bs : List ℕ) (w v : ℕ → List ℕ) (e : (t : ℕ) → t < z.k → w t ≡ v t) where
  open z use {n, k, d, r}

  through-ext : (f g : ℕ → ℕ) → ((t : ℕ) → t < k → f t ≡ g t) → through z xs bs f ≡ through z xs bs g
  unfolding through
  through-ext f g h = ap (interpolate (points xs bs)) (tabulate-ext k f g h)

  c-ext : (i : ℕ) → c_row z xs bs w i ≡ c_row z xs bs v i
  unfolding c_row
  c-ext i = through-ext _ _ (λ t h. ap (λ (l : List ℕ). get_or (own_g z xs (get_or bs t 0) l) i 0) (e t h))

  b-ext : (j : ℕ) → b_column z xs bs w j ≡ b_column z xs bs v j
  unfolding b_column
  b-ext j = through-ext _ _ (λ t h. ap (λ (l : List ℕ). get_or (own_f z xs (get_or bs t 0) l) j 0) (e t h))

  a-ext : (j : ℕ) → a_column z xs bs w j ≡ a_column z xs bs v j
  unfolding a_column
  a-ext j =
      through-ext _ _ (λ t h. ap₂ add (ap (λ (l : List ℕ). get_or (own_f z xs (get_or bs t 0) l) j 0) (e t h))
      (ap (λ (l : List ℕ). eval (lib.ListN.replicate k 0 ++ l) (point xs (get_or bs t 0))) (tabulate-ext (d - k) _ _ (λ i q. ap (λ (l : List ℕ). get_or l j 0) (c-ext (k + i))))))

  pub decoded-ext : decoded_stripe z xs bs w ≡ decoded_stripe z xs bs v
  unfolding decoded_stripe
  decoded-ext =
      ap₂ {C = List ℕ} (λ x y. x ++ y)
      (ap₂ {C = List ℕ} (λ x y. x ++ y)
      (join-ext k _ _ (λ i h. tabulate-ext k _ _ (λ j q. ap (λ (l : List ℕ). get_or l i 0) (a-ext j))))
      (join-ext k _ _ (λ i h. tabulate-ext (d + r - k) _ _ (λ j q. ap (λ (l : List ℕ). get_or l i 0) (b-ext (k + j))))))
      (join-ext (d - k) _ _ (λ i h. c-ext (k + i)))

  pub agrees-ext : (m : ℕ) → stripe_agrees z xs bs w (take m (decoded_stripe z xs bs w)) ≡ stripe_agrees z xs bs v (take m (decoded_stripe z xs bs v))
  agrees-ext m =
      ap alls (tabulate-ext k _ _ (λ t h. ap₂ same (ap (λ (l : List ℕ). kept z xs (fit (B z) (take m l)) (get_or bs t 0)) decoded-ext) (e t h)))

-- ---- one stripe

module _ (z : Sizes) (xs : List ℕ) (legal : Legal z) (pts : DifferentPoints z xs) (bs : List ℕ) (boards : Boards z bs) (lb : length bs ≡ z.k)
    (w : ℕ → List ℕ) (lw : (t : ℕ) → t < z.k → length (w t) ≡ α z) (bw : (t : ℕ) → t < z.k → Bytes (w t)) where
  open z use {n, k, d, r}

  abbrev D : List ℕ
  D = decoded_stripe z xs bs w

  l_d : length D ≡ B z
  l_d = length-decoded z xs legal bs lb w

  agree : Pairs z xs bs w ↔ Kept z xs bs w
  agree = pairs-agree z xs bs w (legal-yes z legal) pts lb (all-below n bs boards.known) (distinct-different bs boards.once) lw bw

  -- the values of f, and those of g, of each board at each board
  abbrev fv : List ℕ
  fv = join k (λ t. tabulate k (λ i. eval (own_f z xs (get_or bs t 0) (w t)) (point xs (get_or bs i 0))))

  abbrev gv : List ℕ
  gv = join k (λ t. tabulate k (λ i. eval (own_g z xs (get_or bs t 0) (w t)) (point xs (get_or bs i 0))))

  fv-at : (s t : ℕ) → s < k → t < k → get_or fv (s * k + t) 0 ≡ eval (own_f z xs (get_or bs s 0) (w s)) (point xs (get_or bs t 0))
  fv-at s t hs ht =
      join-at k k _ (λ i h. length-tabulate k _) s t hs ht ∙ tabulate-at k (λ i. eval (own_f z xs (get_or bs s 0) (w s)) (point xs (get_or bs i 0))) 0 t ht

  gv-at : (s t : ℕ) → s < k → t < k → get_or gv (s * k + t) 0 ≡ eval (own_g z xs (get_or bs s 0) (w s)) (point xs (get_or bs t 0))
  gv-at s t hs ht =
      join-at k k _ (λ i h. length-tabulate k _) s t hs ht ∙ tabulate-at k (λ i. eval (own_g z xs (get_or bs s 0) (w s)) (point xs (get_or bs i 0))) 0 t ht

  meets-pairs : meets k fv gv ≡ true → Pairs z xs bs w
  unfolding meets
  meets-pairs h s t hs ht =
      sym (fv-at s t hs ht) ∙ eqb-true _ _ (alls-true k _ (alls-true k _ h s hs) t ht) ∙ gv-at t s ht hs

  pairs-meets : Pairs z xs bs w → meets k fv gv ≡ true
  unfolding meets
  pairs-meets h = true-alls k _ (λ s hs. true-alls k _ (λ t ht. eq-eqb _ _ (fv-at s t hs ht ∙ h s t hs ht ∙ sym (gv-at t s ht hs))))

  fitted : (m : ℕ) → fit (length D) (take m D) ≡ fit (B z) (take m D)
  fitted m = ap (λ (b : ℕ). fit b (take m D)) l_d

  agreed : (m : ℕ) → stripe_agrees z xs bs w (take m D) ≡ true → (meets k fv gv ≡ true) × (zeros (drop m D) ≡ true)
  agreed m h =
      let u : List ℕ = fit (B z) (take m D) in
      let kw : (t : ℕ) → t < k → kept z xs u (get_or bs t 0) ≡ w t = λ t ht. same-eq _ _ (alls-true k (board_agrees z xs bs w (take m D)) h t ht) in
      let e : D ≡ u =
      decoded-true z xs legal pts u (length-fit (B z) (take m D)) (fit-bytes (B z) (take m D) (take-alls (λ a. a < 256) m D (decoded-bytes z xs legal bs lb w bw))) bs boards lb w
      (λ t ht. sym (kw t ht)) in
      (pairs-meets (agree.1 (λ t ht. ap (λ (l : List ℕ). kept z xs l (get_or bs t 0)) e ∙ kw t ht)), fit-zeros m D (fitted m ∙ sym e))

  agreeing : (m : ℕ) → meets k fv gv ≡ true → zeros (drop m D) ≡ true → stripe_agrees z xs bs w (take m D) ≡ true
  agreeing m h q =
      let e : fit (B z) (take m D) ≡ D = sym (fitted m) ∙ zeros-fit m D q in
      true-alls k (board_agrees z xs bs w (take m D)) (λ t ht.
      ap (λ (l : List ℕ). same l (w t)) (ap (λ (l : List ℕ). kept z xs l (get_or bs t 0)) e ∙ agree.0 (meets-pairs h) t ht) ∙ same_refl (w t))

  pub stripe-agrees : (m : ℕ) → stripe_agrees z xs bs w (take m D) ≡ pick (pairs_meet z xs bs w) (zeros (drop m D)) false
  unfolding pairs_meet
  stripe-agrees m =
      same_truth _ _ (λ h. let a = agreed m h in both_true _ _ a.0 a.1)
      (λ h. let a = both (meets k fv gv) (zeros (drop m D)) h in agreeing m a.0 a.1)

-- ---- all stripes

module _ (z : Sizes) (xs : List ℕ) (legal : Legal z) (bs : List ℕ) (lb : length bs ≡ z.k) (w : ℕ → ℕ → List ℕ) (L S : ℕ) (eS : S ≡ stripes z L)
    (meet : ℕ → Bool) (one : (s : ℕ) → s < S → stripe_reads z xs L bs w s ≡ pick (meet s) (zeros (drop (L - s * B z) (decoded_stripe z xs bs (w s)))) false) where
  abbrev whole : ℕ
  whole = L / B z

  abbrev D' : ℕ → List ℕ
  D' s = decoded_stripe z xs bs (w s)

  abbrev padding : Bool
  padding = pick (ltb whole S) (zeros (drop (L - whole * B z) (D' whole))) true

  some : 0 < B z
  some = B-pos z legal

  ends : L < whole * B z + B z
  ends = omega (arith, div-add-mod' L (B z), mod-lt L some)

  -- a stripe starts in the file
  starts : (s : ℕ) → s < S → s * B z < L
  starts s h = go (dec_lt (s * B z) L)
    where
      go : Dec (s * B z < L) → s * B z < L
      go (yes k) = k
      go (no k) = absurd (omega (arith, stripes-least z legal L s (omega arith)))

  -- so it is a whole one, or the last
  up-to : (s : ℕ) → s < S → s ≤ whole
  up-to s h = go (dec_lt whole s)
    where
      go : Dec (whole < s) → s ≤ whole
      go (yes k) = let q : suc whole * B z ≤ s * B z = mul-le-mul_right (B z) k in absurd (omega (arith, starts s h, ends))
      go (no k) = omega arith

  whole-none : (s : ℕ) → s < whole → zeros (drop (L - s * B z) (D' s)) ≡ true
  whole-none s h =
      ap zeros (drop_of_length-le (D' s) {i = L - s * B z} (omega (arith, length-decoded z xs legal bs lb (w s), row_fits s whole (B z) h, div-add-mod' L (B z))))

  pub all-stripes : alls (tabulate S (stripe_reads z xs L bs w)) ≡ pick (alls (tabulate S meet)) padding false
  all-stripes = same_truth _ _ to from
    where
      to : alls (tabulate S (stripe_reads z xs L bs w)) ≡ true → pick (alls (tabulate S meet)) padding false ≡ true
      to h =
          let each : (s : ℕ) → s < S → pick (meet s) (zeros (drop (L - s * B z) (D' s))) false ≡ true = λ s l. sym (one s l) ∙ alls-true S (stripe_reads z xs L bs w) h s l in
          let parts : (s : ℕ) → s < S → (meet s ≡ true) × (zeros (drop (L - s * B z) (D' s)) ≡ true) = λ s l. both (meet s) (zeros (drop (L - s * B z) (D' s))) (each s l) in
          both_true (alls (tabulate S meet)) padding (true-alls S meet (λ s l. (parts s l).0)) (last (dec_lt whole S) (λ l. (parts whole l).1))
        where
          last : Dec (whole < S) → (whole < S → zeros (drop (L - whole * B z) (D' whole)) ≡ true) → padding ≡ true
          last (yes k) q = rw (lt-ltb whole S k) (q k)
          last (no k) q = rw (le-ltb whole S (omega arith)) refl

      from : pick (alls (tabulate S meet)) padding false ≡ true → alls (tabulate S (stripe_reads z xs L bs w)) ≡ true
      from h =
          let a = both (alls (tabulate S meet)) padding h in
          true-alls S (stripe_reads z xs L bs w) (λ s l. one s l ∙ both_true (meet s) (zeros (drop (L - s * B z) (D' s))) (alls-true S meet a.0 s l) (pad s l a.1 (dec_lt s whole)))
        where
          pad : (s : ℕ) → s < S → padding ≡ true → Dec (s < whole) → zeros (drop (L - s * B z) (D' s)) ≡ true
          pad s l q (yes k) = whole-none s k
          pad s l q (no k) =
              let e : s ≡ whole = omega (arith, up-to s l) in
              ap (λ (s : ℕ). zeros (drop (L - s * B z) (D' s))) e
              ∙ sym (ap (λ (b : Bool). pick b (zeros (drop (L - whole * B z) (D' whole))) true) (lt-ltb whole S (omega arith))) ∙ q
