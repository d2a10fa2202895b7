-- The points of a text: the line of points, or none, is read as it was written.
-- Assumes nothing.
use mathlib.Core.Path.{◌≡◌, refl, sym, ap, ap₂, ◌∙◌}
use mathlib.Core.Bool.{Bool, true, false, not}
use mathlib.Core.Logic.{◌≢◌}
use mathlib.Core.Option.{Option, some, none}
use mathlib.Core.List.{List, [], ◌∷◌, ◌++◌}
use Prim.Native.Nat.{ℕ, zero, suc, ◌≤◌, ◌<◌}
use native.Mathlib.Omega.{arith}
use lib.Dec.{ltb, eqb}
use lib.ListN.{length, get_or, take, drop, get_or-eq_default}
use lib.Seq.{ext_get_or, length-take-le}
use borrow.Author.Tests.{ltb-true, ltb-false, eqb-true}
use Rattle.lists.specs.Tests.{pick, same, every, below, different}
use Rattle.lists.specs.Lists.{All, Bytes, tabulate, joined, fit}
use Rattle.lists.proofs.Alls.{take-alls}
use Rattle.lists.proofs.Boards.{below_all}
use Rattle.lists.proofs.Pieces.{length-tabulate, tabulate-at, length-fit, fit_at, take-fit}
use Rattle.lists.proofs.Tests.{alls-hold, hold-alls, every-all, same-eq}
use Rattle.number_lines.proofs.Picks.{yes, if-ne}
use Rattle.sizes.specs.declared.Sizes.{Sizes}
use Rattle.sizes.specs.Sizing.{legal}
use Rattle.mbcr.specs.Share.{standard, pointed}
use Rattle.mbcr.proofs.PointLaws.{standard-pointed}
use Rattle.board_spec.specs.Text.{hex_pair, text_line, points_line}
use Rattle.board_spec.proofs.Text.{standard-unsaid}
use Rattle.text_spec.specs.Texts.{tellable, some_points}
use Rattle.text_spec.proofs.Forms.{pairs-line-taken, line-apart}
use Rattle.text_spec.proofs.Back.{picked, name_back, pairs-back}

-- ---- points in 32 bytes

-- what is taken, filled up with what is left out
fit-take : (m n : ℕ) (xs : List ℕ) → length xs ≡ m → All (λ x. x ≡ 0) (drop n xs) → fit m (take n xs) ≡ xs
fit-take zero n [] e h = fit_none (take n [])
  where
    fit_none : (l : List ℕ) → fit 0 l ≡ []
    fit_none l = refl
fit-take zero n (x ∷ xs) e h = absurd (omega (arith, e))
fit-take (suc m) n [] e h = absurd (omega (arith, e))
fit-take (suc m) zero (x ∷ xs) e h = ap₂ {C = List ℕ} (λ (y : ℕ) l. y ∷ l) (sym h.0) (fit-take m zero xs (omega (arith, e)) h.1)
fit-take (suc m) (suc n) (x ∷ xs) e h = ap {B = List ℕ} (λ l. x ∷ l) (fit-take m n xs (omega (arith, e)) h)

-- n points in 32 bytes
filled : (m n : ℕ) (f : ℕ → ℕ) → n ≤ m → (i : ℕ) → i < m → get_or (fit m (tabulate n f)) i 0 ≡ pick (ltb i n) (f i) 0
filled m n f h i l = fit_at m (tabulate n f) i l ∙ go (ltb i n) refl
  where
    go : (t : Bool) → ltb i n ≡ t → get_or (tabulate n f) i 0 ≡ pick t (f i) 0
    go true e = tabulate-at n f 0 i (ltb-true i n e)
    go false e = get_or-eq_default (tabulate n f) 0 {n = i} (omega (arith, length-tabulate n f, ltb-false i n e))

abbrev numbers : ℕ → List ℕ
numbers n = tabulate n (λ i. i)

pub numbers-standard : (z : Sizes) → z.n ≤ 32 → fit 32 (numbers z.n) ≡ standard z
numbers-standard z few =
    ext_get_or 0 (fit 32 (numbers z.n)) (standard z) (length-fit 32 (numbers z.n) ∙ sym (length-tabulate 32 (λ i. pick (ltb i z.n) i 0)))
    (λ i l. let k : i < 32 = omega (arith, length-fit 32 (numbers z.n)) in
    filled 32 z.n (λ i. i) few i k ∙ sym (tabulate-at 32 (λ i. pick (ltb i z.n) i 0) 0 i k))

-- what it says that points are taken
record Taken (z : Sizes) (xs : List ℕ) : Type 0 where
  filled-up : fit 32 (take z.n xs) ≡ xs
  bytes : Bytes (take z.n xs)
  long : z.n ≤ length xs

taken : (z : Sizes) (xs : List ℕ) → z.n ≤ 32 → pointed z xs ≡ true → Taken z xs
unfolding pointed
taken z xs few h =
    let e = alls-hold (eqb (length xs) 32 ∷ below 256 xs ∷ different (take z.n xs) ∷ every (λ x. eqb x 0) (drop z.n xs) ∷ []) h in
    let long : length xs ≡ 32 = eqb-true _ _ e.0 in
    record {
      filled-up = fit-take 32 z.n xs long (zeros (drop z.n xs) (every-all (λ x. eqb x 0) (drop z.n xs) e.1.1.1.0));
      bytes = take-alls (λ x. x < 256) z.n xs (below_all 256 xs e.1.0);
      long = omega arith;
    }
  where
    zeros : (l : List ℕ) → All (λ x. eqb x 0 ≡ true) l → All (λ x. x ≡ 0) l
    zeros [] h = tt
    zeros (x ∷ l) h = (eqb-true x 0 h.0, zeros l h.1)

other : (t : Bool) → not t ≡ true → t ≡ false
other true e = sym e
other false e = refl

-- points
abbrev points_name : List ℕ
points_name = 0x70 ∷ 0x6F ∷ 0x69 ∷ 0x6E ∷ 0x74 ∷ 0x73 ∷ []

module _ (z : Sizes) (few : z.n ≤ 32) where
  -- ---- what is written is read

  module _ {A : Type 0} (bad : A) (xs : List ℕ) (ok : pointed z xs ≡ true) (input : List ℕ) (go : List ℕ → List ℕ → A) where
    said : same (take z.n xs) (numbers z.n) ≡ false → some_points bad z (text_line points_name (joined hex_pair (take z.n xs)) ++ input) go ≡ go xs input
    unfolding some_points
    said e =
        let t = taken z xs few ok in
        let l = take z.n xs in
        pairs-line-taken bad points_name (take z.n xs) z.n t.bytes (length-take-le z.n xs t.long) input
        (λ xs input. pick (tellable z xs) (go (fit 32 xs) input) bad)
        ∙ yes (tellable z (take z.n xs)) _ _
        (hold-alls (pointed z (fit 32 (take z.n xs)) ∷ not (same (take z.n xs) (numbers z.n)) ∷ []) (rw t.filled-up ok, (ap not e, tt)))
        ∙ ap (λ (ys : List ℕ). go ys input) t.filled-up

    unsaid : same (take z.n xs) (numbers z.n) ≡ true → get_or input 0 0 ≢ 0x70 → some_points bad z input go ≡ go xs input
    unfolding some_points
    unsaid e first =
        if-ne (get_or input 0 0) 0x70 _ _ first
        ∙ ap (λ (ys : List ℕ). go ys input)
        (sym (numbers-standard z few) ∙ ap (fit 32) (sym (same-eq (take z.n xs) (numbers z.n) e)) ∙ (taken z xs few ok).filled-up)

    pub points-taken : get_or input 0 0 ≢ 0x70 → some_points bad z (points_line z xs ++ input) go ≡ go xs input
    unfolding points_line
    points-taken first = by (same (take z.n xs) (numbers z.n)) refl
      where
        by : (t : Bool) → same (take z.n xs) (numbers z.n) ≡ t
            → some_points bad z (pick t [] (text_line points_name (joined hex_pair (take z.n xs))) ++ input) go ≡ go xs input
        by true e = unsaid e first
        by false e = said e

  -- ---- what is read was written

  line_of : (l : List ℕ) → length l ≡ z.n → same l (numbers z.n) ≡ false → points_line z (fit 32 l) ≡ text_line points_name (joined hex_pair l)
  unfolding points_line
  line_of l e n =
      let q : take z.n (fit 32 l) ≡ l = ap (λ (m : ℕ). take m (fit 32 l)) (sym e) ∙ take-fit 32 l (omega (arith, few)) in
      rw (q, n)

  module _ (ok : legal z ≡ true) {X : Type 0} (input : List ℕ) (go : List ℕ → List ℕ → Option X) (x : X) where
    abbrev Read : Type 0
    Read = (xs : List ℕ) × (rest : List ℕ) × (input ≡ points_line z xs ++ rest) × (pointed z xs ≡ true) × (go xs rest ≡ some x)

    pub points-back : some_points none z input go ≡ some x → Read
    unfolding some_points
    points-back e = by (eqb (get_or input 0 0) 0x70) refl e
      where
        by : (t : Bool) → eqb (get_or input 0 0) 0x70 ≡ t
            → pick t (Rattle.point_lines.specs.Lines.read_points none z.n input (λ xs input. pick (tellable z xs) (go (fit 32 xs) input) none)) (go (standard z) input) ≡ some x → Read
        by false q e = (standard z, input, sym (ap (λ (l : List ℕ). l ++ input) (standard-unsaid z ok)), standard-pointed z ok, e)
        by true q e =
            let a = name_back (0x70 ∷ 0x6F ∷ 0x69 ∷ 0x6E ∷ 0x74 ∷ 0x73 ∷ 0x3D ∷ []) input
            (λ input. Rattle.point_lines.specs.Lines.read_pairs none z.n input (λ xs input. pick (tellable z xs) (go (fit 32 xs) input) none)) e in
            let b = pairs-back z.n a.0 (λ xs input. pick (tellable z xs) (go (fit 32 xs) input) none) a.2 in
            let c = picked (tellable z b.0) (go (fit 32 b.0) b.1) b.5 in
            let h = alls-hold (pointed z (fit 32 b.0) ∷ not (same b.0 (numbers z.n)) ∷ []) c.0 in (
              fit 32 b.0,
              b.1,
              a.1 ∙ ap (λ (l : List ℕ). points_name ++ (0x3D ∷ []) ++ l) b.4 ∙ sym (line-apart points_name (joined hex_pair b.0) b.1)
                  ∙ ap (λ (l : List ℕ). l ++ b.1) (sym (line_of b.0 b.2 (other (same b.0 (numbers z.n)) h.1.0))),
              h.0,
              c.1,
            )
