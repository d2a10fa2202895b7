-- Values of k boards' polynomials at other boards, and their coefficients from the values.
-- Assumes nothing.
use mathlib.Core.Path.{◌≡◌, refl, sym, ap, ap₂, ◌∙◌}
use mathlib.Core.List.{List, [], ◌∷◌, map}
use Prim.Native.Nat.{ℕ, ◌+◌, ◌*◌, ◌-◌, ◌%◌, ◌<◌, ◌≤◌}
use native.Mathlib.Omega.{arith}
use lib.ListN.{length, get_or, drop, get_or-eq_default, length-map}
use lib.Seq.{get_or-drop}
use Rattle.lists.specs.Lists.{All, Bytes, tabulate, join, fit}
use Rattle.lists.proofs.Alls.{all-at}
use Rattle.lists.proofs.Pieces.{length-tabulate, tabulate-at, tabulate-all, tabulate-ext, tabulate-map, join-ext, length-join, piece-join, length-fit, map_at}
use Rattle.gf256.specs.Field.{mul}
use Rattle.gf256.proofs.Field.{mul_comm, zero-mul}
use Rattle.sizes.specs.declared.Sizes.{Sizes}
use Rattle.sizes.proofs.Legal.{row_fits}
use Rattle.polynomial.specs.Polynomial.{eval, evals, interpolate, sum}
use Rattle.polynomial.proofs.Poly.{eval-byte, evals-bytes, interpolate-bytes, length-interpolate, interpolate-evals}
use Rattle.mbcr.specs.Share.{DifferentPoints, points, neighbours, point}
use Rattle.mbcr.proofs.Points.{Boards, length-neighbours, length-points, points-bytes, points-distinct}
use Rattle.lagrange.specs.Steps.{unit, weight}
use Rattle.decode_laws.specs.Steps.{cell, sums, offset, value_by, values_of, factors_of, factor_rows, unit_rows, by_rows, top_rows, tops_of}
use Rattle.decode_laws.proofs.Sums.{sum_below, sum-cut}
use Rattle.decode_laws.proofs.Rows.{join-at, cell-fit, coefficient, sums-ext, rows-through}
use Rattle.decode_laws.proofs.Values.{Factors, value-at}

pub length-factors : (z : Sizes) (xs : List ℕ) (c b : ℕ) → length (factors_of z xs c b) ≡ (z.n - c) * 32
unfolding factors_of
length-factors z xs c b = length-join (z.n - c) 32 _ (λ o h. length-fit 32 (tabulate c (λ j. weight (points xs (neighbours z b c)) j (point xs ((b + (c + o)) % z.n)))))

map_of : (p : List ℕ) (xs l : List ℕ) → map (λ b. eval p (point xs b)) l ≡ evals p (points xs l)
map_of p xs [] = refl
map_of p xs (b ∷ l) = ap {B = List ℕ} (λ l. eval p (point xs b) ∷ l) (map_of p xs l)

module _ (z : Sizes) (xs : List ℕ) (pts : DifferentPoints z xs) (bs : List ℕ) (known : All (λ i. i < z.n) bs) (c : ℕ) (few : c ≤ z.n) (wide : c ≤ 32)
    (vs : ℕ → List ℕ) (lv : (t : ℕ) → t < length bs → length (vs t) ≡ c) (bv : (t : ℕ) → t < length bs → Bytes (vs t)) where
  open z use {n}

  abbrev b : ℕ → ℕ
  b t = get_or bs t 0

  -- the polynomial of boards[t]
  abbrev p : ℕ → List ℕ
  p t = interpolate (points xs (neighbours z (b t) c)) (vs t)

  below : (t : ℕ) → t < length bs → b t < n
  below t h = all-at (λ i. i < n) 0 bs known t h

  -- the factors of boards[t]
  factors-at : (t : ℕ) (h : t < length bs) → Factors z xs pts c few wide (b t) (below t h) (drop (t * ((n - c) * 32)) (factor_rows z xs c bs))
  unfolding factors_of
  factors-at t h o j ho hn hj =
      let i : ℕ = (o - c) * 32 + j in
      let q : i < (n - c) * 32 = omega (arith, row_fits (o - c) (n - c) 32 (omega arith)) in
      let e : c + (o - c) ≡ o = omega arith in
      get_or-drop (t * ((n - c) * 32)) (factor_rows z xs c bs) i 0
      ∙ join-at (length bs) ((n - c) * 32) (λ t. factors_of z xs c (b t)) (λ t l. length-factors z xs c (b t)) t i h q
      ∙ cell-fit (n - c) (λ o. tabulate c (λ j. weight (points xs (neighbours z (b t) c)) j (point xs ((b t + (c + o)) % n)))) (o - c) j (omega arith) (omega arith)
      ∙ tabulate-at c (λ j. weight (points xs (neighbours z (b t) c)) j (point xs ((b t + (c + (o - c))) % n))) 0 j hj
      ∙ ap (λ (o : ℕ). weight (points xs (neighbours z (b t) c)) j (point xs ((b t + o) % n))) e

  abbrev rows : List ℕ
  rows = join (length bs) (λ t. fit 32 (vs t))

  -- the values at boards
  pub values-are : (m : ℕ) → c ≤ m → m ≤ 32 → (targets : List ℕ) → All (λ i. i < n) targets
      → values_of n c m bs targets (factor_rows z xs c bs) rows ≡ join (length bs) (λ t. tabulate (length targets) (λ i. eval (p t) (point xs (get_or targets i 0))))
  unfolding values_of
  values-are m lm hm targets kt =
      join-ext (length bs) _ _ (λ t ht. tabulate-ext (length targets) _ _ (λ i hi.
      ap (λ (l : List ℕ). value_by c (offset n (b t) (get_or targets i 0)) m (drop (t * ((n - c) * 32)) (factor_rows z xs c bs)) l)
      (piece-join (length bs) 32 (λ t. fit 32 (vs t)) (λ t l. length-fit 32 (vs t)) t ht)
      ∙ value-at z xs pts c few wide (b t) (below t ht) (vs t) (lv t ht) (bv t ht) m lm hm (drop (t * ((n - c) * 32)) (factor_rows z xs c bs)) (factors-at t ht) (get_or targets i 0)
      (all-at (λ i. i < n) 0 targets kt i hi)))

  length-p : (t : ℕ) → t < length bs → length (p t) ≡ c
  length-p t h =
      let e : length (points xs (neighbours z (b t) c)) ≡ c = length-points xs (neighbours z (b t) c) ∙ length-neighbours z (b t) c in
      length-interpolate (points xs (neighbours z (b t) c)) (vs t) (e ∙ sym (lv t h)) ∙ e

  p-bytes : (t : ℕ) → t < length bs → Bytes (p t)
  p-bytes t h = interpolate-bytes (points xs (neighbours z (b t) c)) (vs t) (bv t h)

  -- the coefficients, from values at c boards
  module _ (C : List ℕ) (boards : Boards z C) (l_c : length C ≡ c) where
    row-coefs : (t : ℕ) (va : List ℕ) → t < length bs → ((i : ℕ) → i < c → get_or va (t * c + i) 0 ≡ eval (p t) (point xs (get_or C i 0)))
        → sums c (λ s. get_or va (t * c + s) 0) (unit_rows (points xs C)) ≡ fit 32 (p t)
    row-coefs t va h e =
        let l : length (points xs C) ≡ c = length-points xs C ∙ l_c in
        let v : ℕ → ℕ = λ i. eval (p t) (point xs (get_or C i 0)) in
        sums-ext c _ v (unit_rows (points xs C)) (unit_rows (points xs C)) e (λ s j hs hj. refl)
        ∙ ap (λ (m : ℕ). sums m v (unit_rows (points xs C))) (sym l)
        ∙ rows-through (points xs C) (points-bytes z xs pts C boards) (points-distinct z xs pts C boards) v
        (tabulate-all (λ a. a < 256) (length (points xs C)) v (λ i q. eval-byte (p t) (point xs (get_or C i 0)) (p-bytes t h)))
        ∙ ap (λ (q : List ℕ). fit 32 (interpolate (points xs C) q))
        (tabulate-map (λ b. eval (p t) (point xs b)) (length (points xs C)) C 0 (l_c ∙ sym l) ∙ map_of (p t) xs C)
        ∙ ap (fit 32) (interpolate-evals (p t) (points xs C) (length-p t h ∙ sym l) (p-bytes t h) (points-bytes z xs pts C boards) (points-distinct z xs pts C boards))

    pub coefs-are : (m : ℕ) → c ≤ m → m ≤ 32
        → by_rows (length bs) c (values_of n c m bs C (factor_rows z xs c bs) rows) (unit_rows (points xs C)) ≡ join (length bs) (λ t. fit 32 (p t))
    unfolding by_rows
    coefs-are m lm hm =
        let va : List ℕ = join (length bs) (λ t. tabulate c (λ i. eval (p t) (point xs (get_or C i 0)))) in
        ap (λ (va : List ℕ). join (length bs) (λ i. sums c (λ s. get_or va (i * c + s) 0) (unit_rows (points xs C))))
        (values-are m lm hm C boards.known ∙ ap (λ (q : ℕ). join (length bs) (λ t. tabulate q (λ i. eval (p t) (point xs (get_or C i 0))))) l_c)
        ∙ join-ext (length bs) _ _ (λ t ht. row-coefs t va ht (λ i hi.
        join-at (length bs) c (λ t. tabulate c (λ i. eval (p t) (point xs (get_or C i 0)))) (λ t l. length-tabulate c _) t i ht hi
        ∙ tabulate-at c (λ i. eval (p t) (point xs (get_or C i 0))) 0 i hi))

    -- some of them, by a row of the inverse matrix each; behind the values anything may stand
    abbrev qs : List ℕ
    qs = points xs C

    abbrev U : ℕ → ℕ → ℕ
    U s i = get_or (interpolate qs (unit (length qs) s)) i 0

    lq : length qs ≡ c
    lq = length-points xs C ∙ l_c

    value_of : (t s : ℕ) → s < c → get_or (evals (p t) qs) s 0 ≡ eval (p t) (point xs (get_or C s 0))
    value_of t s h = map_at (λ x. eval (p t) x) qs s (omega (arith, lq)) ∙ ap (eval (p t)) (map_at (point xs) C s (omega (arith, l_c)))

    module _ (k : ℕ) where
      abbrev top : ℕ → List ℕ
      top i = tabulate (length qs) (λ s. U s (k + i))

      top-at : (i s : ℕ) → i < c - k → s < c → cell (top_rows k qs) i s ≡ U s (k + i)
      unfolding top_rows
      top-at i s hi hs = cell-fit (length qs - k) top i s (omega (arith, lq)) (omega arith) ∙ tabulate-at (length qs) (λ s. U s (k + i)) 0 s (omega (arith, lq))

      top-past : (i s : ℕ) → i < c - k → c ≤ s → s < 32 → cell (top_rows k qs) i s ≡ 0
      unfolding top_rows
      top-past i s hi hs ls =
          cell-fit (length qs - k) top i s (omega (arith, lq)) ls
          ∙ get_or-eq_default (top i) 0 (omega (arith, length-tabulate (length qs) (λ s. U s (k + i)), lq))

      pub tops_are : (m : ℕ) → c ≤ m → m ≤ 32 → (va : List ℕ)
          → ((t i : ℕ) → t < length bs → i < c → get_or va (t * c + i) 0 ≡ eval (p t) (point xs (get_or C i 0)))
          → (i t : ℕ) → i < c - k → t < length bs → get_or (tops_of (c - k) (length bs) c m (top_rows k (points xs C)) va) (i * length bs + t) 0 ≡ get_or (p t) (k + i) 0
      unfolding tops_of
      tops_are m lm hm va e i t hi ht =
          let term : ℕ → ℕ → ℕ → ℕ = λ i t s. mul (cell (top_rows k qs) i s) (get_or va (t * c + s) 0) in
          join-at (c - k) (length bs) (λ i. tabulate (length bs) (λ t. sum m (term i t))) (λ i q. length-tabulate (length bs) (λ t. sum m (term i t))) i t hi ht
          ∙ tabulate-at (length bs) (λ t. sum m (term i t)) 0 t ht
          ∙ sum-cut c m (term i t) lm (λ s q l. ap (λ (v : ℕ). mul v (get_or va (t * c + s) 0)) (top-past i s hi q (omega arith)) ∙ zero-mul _)
          ∙ ap (λ (n : ℕ). sum n (term i t)) (sym lq)
          ∙ sum_below (length qs) (term i t) (λ s. mul (get_or (evals (p t) qs) s 0) (U s (k + i)))
          (λ s q. mul_comm _ _ ∙ ap₂ mul (e t s ht (omega (arith, lq)) ∙ sym (value_of t s (omega (arith, lq)))) (top-at i s hi (omega (arith, lq))))
          ∙ coefficient qs (points-bytes z xs pts C boards) (points-distinct z xs pts C boards) (evals (p t) qs) (sym (length-map qs (λ x. eval (p t) x)))
          (evals-bytes (p t) qs (p-bytes t ht)) (k + i)
          ∙ ap (λ (q : List ℕ). get_or q (k + i) 0) (interpolate-evals (p t) qs (length-p t ht ∙ sym lq) (p-bytes t ht) (points-bytes z xs pts C boards) (points-distinct z xs pts C boards))
