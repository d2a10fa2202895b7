-- The value of a board's polynomial at another board's point: a byte that is kept, or the sum of the bytes kept times their factors.
-- Assumes nothing.
use mathlib.Core.Path.{◌≡◌, sym, ap, ap₂, ◌∙◌}
use mathlib.Core.List.{List}
use Prim.Native.Nat.{ℕ, ◌+◌, ◌-◌, ◌%◌, ◌<◌, ◌≤◌}
use native.Mathlib.Nat.{mod-eq_of_lt, mod-eq-sub-mod}
use native.Mathlib.Decide.{dec_lt}
use native.Mathlib.Omega.{arith}
use lib.Dec.{ltb}
use lib.ListN.{length, get_or, get_or-eq_default}
use borrow.Author.Tests.{lt-ltb, le-ltb, le-leb, lt-leb}
use Rattle.lists.specs.Tests.{pick}
use Rattle.lists.specs.Lists.{Bytes, fit}
use Rattle.lists.proofs.Pieces.{map_at, fit_at}
use Rattle.gf256.specs.Field.{mul}
use Rattle.gf256.proofs.Field.{mul_comm, mul-zero}
use Rattle.sizes.specs.declared.Sizes.{Sizes}
use Rattle.polynomial.specs.Polynomial.{eval, interpolate, sum}
use Rattle.polynomial.proofs.Poly.{evals-interpolate}
use Rattle.mbcr.specs.Share.{DifferentPoints, points, neighbours, point}
use Rattle.mbcr.proofs.Points.{Boards, length-neighbours, neighbours-boards, length-points, points-bytes, points-distinct}
use Rattle.mbcr.proofs.Places.{neighbour-at}
use Rattle.lagrange.specs.Steps.{weight}
use Rattle.lagrange.proofs.Lagrange.{value-is}
use Rattle.decode_laws.specs.Steps.{cell, offset, value_by}
use Rattle.decode_laws.proofs.Sums.{sum_below, sum-cut}

-- ---- offsets

pub offset-below : (n a b : ℕ) → a < n → b < n → offset n a b < n
offset-below n a b ha hb = go (dec_lt b a)
  where
    go : Dec (b < a) → offset n a b < n
    go (yes h) = rw (lt-leb a b h) (omega arith)
    go (no h) = rw (le-leb a b (omega arith)) (omega arith)

pub offset-there : (n a b : ℕ) → a < n → b < n → (a + offset n a b) % n ≡ b
offset-there n a b ha hb = go (dec_lt b a)
  where
    go : Dec (b < a) → (a + offset n a b) % n ≡ b
    go (yes h) =
        let e : a + (b + n - a) ≡ b + n = omega arith in
        let f : b + n - n ≡ b = omega arith in
        rw (lt-leb a b h) (ap (λ (m : ℕ). m % n) e ∙ mod-eq-sub-mod (omega arith) ∙ ap (λ (m : ℕ). m % n) f ∙ mod-eq_of_lt hb)
    go (no h) =
        let e : a + (b - a) ≡ b = omega arith in
        rw (le-leb a b (omega arith)) (ap (λ (m : ℕ). m % n) e ∙ mod-eq_of_lt hb)

-- ---- values

module _ (z : Sizes) (xs : List ℕ) (pts : DifferentPoints z xs) (c : ℕ) (few : c ≤ z.n) (wide : c ≤ 32) (b : ℕ) (hb : b < z.n) where
  open z use {n}

  -- the points of the board and its c − 1 neighbours
  abbrev near : List ℕ
  near = points xs (neighbours z b c)

  -- the rows of factors are Lagrange's
  abbrev pub Factors : List ℕ → Type 0
  Factors factors = (o j : ℕ) → c ≤ o → o < n → j < c → cell factors (o - c) j ≡ weight near j (point xs ((b + o) % n))

  boards : Boards z (neighbours z b c)
  boards = neighbours-boards z b c hb few

  length-near : length near ≡ c
  length-near = length-points xs (neighbours z b c) ∙ length-neighbours z b c

  near-at : (o : ℕ) → o < c → get_or near o 0 ≡ point xs ((b + o) % n)
  near-at o h =
      map_at (point xs) (neighbours z b c) o (omega (arith, length-neighbours z b c)) ∙ ap (point xs) (neighbour-at z b c o h)

  module _ (vs : List ℕ) (lv : length vs ≡ c) (bv : Bytes vs) (m : ℕ) (lm : c ≤ m) (hm : m ≤ 32) (factors : List ℕ) (fs : Factors factors) where
    kept-value : (o : ℕ) → o < c → eval (interpolate near vs) (point xs ((b + o) % n)) ≡ get_or vs o 0
    kept-value o h =
        ap (eval (interpolate near vs)) (sym (near-at o h))
        ∙ sym (map_at (λ x. eval (interpolate near vs) x) near o (omega (arith, length-near)))
        ∙ ap (λ (l : List ℕ). get_or l o 0) (evals-interpolate near vs (length-near ∙ sym lv) bv
        (points-bytes z xs pts (neighbours z b c) boards) (points-distinct z xs pts (neighbours z b c) boards))

    far-value : (o : ℕ) → c ≤ o → o < n → eval (interpolate near vs) (point xs ((b + o) % n)) ≡ sum m (λ j. mul (cell factors (o - c) j) (get_or (fit 32 vs) j 0))
    far-value o h l =
        let y : ℕ = point xs ((b + o) % n) in
        value-is near (points-bytes z xs pts (neighbours z b c) boards) (points-distinct z xs pts (neighbours z b c) boards) vs (length-near ∙ sym lv) bv y
        ∙ ap (λ (k : ℕ). sum k (λ t. mul (get_or vs t 0) (weight near t y))) length-near
        ∙ sum_below c (λ t. mul (get_or vs t 0) (weight near t y)) (λ j. mul (cell factors (o - c) j) (get_or (fit 32 vs) j 0))
        (λ j k. mul_comm (get_or vs j 0) (weight near j y) ∙ ap₂ mul (sym (fs o j h l k)) (sym (fit_at 32 vs j (omega arith))))
        ∙ sym (sum-cut c m (λ j. mul (cell factors (o - c) j) (get_or (fit 32 vs) j 0)) lm (λ j k q. ap (mul (cell factors (o - c) j)) (none j k q) ∙ mul-zero _))
      where
        none : (j : ℕ) → c ≤ j → j < m → get_or (fit 32 vs) j 0 ≡ 0
        none j k q = fit_at 32 vs j (omega arith) ∙ get_or-eq_default vs 0 (omega arith)

    pub value_there : (o : ℕ) → o < n → value_by c o m factors (fit 32 vs) ≡ eval (interpolate near vs) (point xs ((b + o) % n))
    unfolding value_by
    value_there o h = go (dec_lt o c)
      where
        go : Dec (o < c) → pick (ltb o c) (get_or (fit 32 vs) o 0) (sum m (λ j. mul (cell factors (o - c) j) (get_or (fit 32 vs) j 0))) ≡ eval (interpolate near vs) (point xs ((b + o) % n))
        go (yes k) = rw (lt-ltb o c k) (fit_at 32 vs o (omega arith) ∙ sym (kept-value o k))
        go (no k) = rw (le-ltb o c (omega arith)) (sym (far-value o (omega arith) h))

    -- at the point of board b'
    pub value-at : (b' : ℕ) → b' < n → value_by c (offset n b b') m factors (fit 32 vs) ≡ eval (interpolate near vs) (point xs b')
    value-at b' h =
        value_there (offset n b b') (offset-below n b b' hb h) ∙ ap (λ (i : ℕ). eval (interpolate near vs) (point xs i)) (offset-there n b b' hb h)
