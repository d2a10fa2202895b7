-- The line of points: a byte is always left for another pair, and the points need not come to 0 to n − 1.
-- Assumes nothing.
use mathlib.Core.Path.{◌≡◌, refl, sym, ap, ◌∙◌}
use mathlib.Core.Bool.{Bool, true, false, not}
use mathlib.Core.Logic.{◌≢◌}
use mathlib.Core.List.{List, [], ◌∷◌, ◌++◌}
use Prim.Native.Nat.{ℕ, zero, suc, ◌+◌, ◌≤◌, ◌<◌}
use native.Mathlib.Omega.{arith}
use lib.Dec.{eqb}
use lib.ListN.{length, get_or, take, drop, length-append}
use borrow.Author.Tests.{eqb-true, eqb-false, ne_eqb, eq-eqb}
use Rattle.lists.specs.Tests.{pick, alls, every, among, different, same}
use Rattle.lists.specs.Lists.{Bytes, tabulate, fit, without}
use Rattle.lists.proofs.Alls.{all-imp, append-all, distinct-left}
use Rattle.lists.proofs.Boards.{all-below, among-without, not-among-cons, not-among, distinct, distinct-different, distinct_append}
use Rattle.lists.proofs.Pieces.{tabulate-at, length-fit, fit-bytes, take-fit}
use Rattle.lists.proofs.Tests.{true-false, is_false, alls-hold, hold-alls, same-eq}
use Rattle.number_lines.proofs.Picks.{yes, no, if-ne}
use Rattle.point_lines.specs.Lines.{read_name, read_pairs, read_points}
use Rattle.point_lines.specs.Steps.{points_name}
use Rattle.sizes.specs.declared.Sizes.{Sizes}
use Rattle.mbcr.specs.Share.{standard, pointed}
use Rattle.text_spec.specs.Texts.{tellable, some_points}
use Rattle.prefix_spec.specs.Prefix.{name_on, pairs_on, may_point}
use Rattle.prefix_spec.proofs.Best.{Best, None, common, best-same}
use Rattle.prefix_spec.proofs.Pairs.{name-best, pairs-best}

-- ---- a number that a list does not have

fewer : (x : ℕ) (l : List ℕ) → (length (without x l) ≤ length l) × (among l x ≡ true → length (without x l) < length l)
fewer x [] = (omega arith, λ e. absurd (true-false e refl))
fewer x (y ∷ l) = by (eqb y x) (fewer x l)
  where
    by : (t : Bool) → (length (without x l) ≤ length l) × (among l x ≡ true → length (without x l) < length l)
        → (length (pick t [] (y ∷ []) ++ without x l) ≤ length (y ∷ l)) × (pick t true (among l x) ≡ true → length (pick t [] (y ∷ []) ++ without x l) < length (y ∷ l))
    by true ih = (omega (arith, ih.0), λ e. omega (arith, ih.0))
    by false ih = (omega (arith, ih.0), λ e. omega (arith, ih.1 e))

left_out : (k : ℕ) (l : List ℕ) → length l ≤ k → (x : ℕ) × (x ≤ k) × (among l x ≡ false)
left_out zero [] h = (0, omega arith, refl)
left_out zero (y ∷ l) h = absurd (omega (arith, h))
left_out (suc k) l h = by (among l (suc k)) refl (λ q. left_out k (without (suc k) l) q)
  where
    by : (t : Bool) → among l (suc k) ≡ t → (length (without (suc k) l) ≤ k → (x : ℕ) × (x ≤ k) × (among (without (suc k) l) x ≡ false))
        → (x : ℕ) × (x ≤ suc k) × (among l x ≡ false)
    by false e ih = (suc k, omega arith, e)
    by true e ih =
        let r = ih (omega (arith, h, (fewer (suc k) l).1 e)) in
        let other : suc k ≡ r.0 → ⊥ = λ q. omega (arith, q, r.1) in
        (r.0, omega (arith, r.1), sym (if-ne (suc k) r.0 false (among l r.0) other) ∙ sym (among-without (suc k) l r.0) ∙ r.2)

-- ---- one number more

different-more : (xs : List ℕ) (x : ℕ) → different xs ≡ true → among xs x ≡ false → different (xs ++ (x ∷ [])) ≡ true
different-more xs x d n =
    distinct-different (xs ++ (x ∷ []))
    (distinct_append xs (x ∷ []) (distinct xs d) (tt, tt) (all-imp (λ y. y ≢ x) (λ y. among (x ∷ []) y ≡ false) (λ y q. alone y q) xs (not-among xs x n)))
  where
    alone : (y : ℕ) → y ≢ x → among (x ∷ []) y ≡ false
    alone y q = if-ne x y true false (λ e. q (sym e))

different-less : (xs ys : List ℕ) → different (xs ++ ys) ≡ true → different xs ≡ true
different-less xs ys d = distinct-different xs (distinct-left xs ys (distinct (xs ++ ys) d))

at-end : (xs : List ℕ) (x : ℕ) → get_or (xs ++ (x ∷ [])) (length xs) 0 ≡ x
at-end [] x = refl
at-end (y ∷ xs) x = at-end xs x

-- a number other than its place
not-in-order : (n : ℕ) (xs : List ℕ) (x : ℕ) → length xs < n → x ≢ length xs → same (xs ++ (x ∷ [])) (tabulate n (λ i. i)) ≡ false
not-in-order n xs x h k =
    is_false (same (xs ++ (x ∷ [])) (tabulate n (λ i. i)))
    (λ e. k (sym (at-end xs x) ∙ ap (λ (l : List ℕ). get_or l (length xs) 0) (same-eq (xs ++ (x ∷ [])) (tabulate n (λ i. i)) e) ∙ tabulate-at n (λ i. i) 0 (length xs) h))

-- ---- points in 32 bytes

zeros-behind : (m : ℕ) (l : List ℕ) → every (λ x. eqb x 0) (drop (length l) (fit m l)) ≡ true
zeros-behind zero [] = refl
zeros-behind zero (x ∷ l) = refl
zeros-behind (suc m) [] = zeros-behind m []
zeros-behind (suc m) (x ∷ l) = zeros-behind m l

pointed-fit : (z : Sizes) (xs : List ℕ) → z.n ≤ 32 → length xs ≡ z.n → Bytes xs → pointed z (fit 32 xs) ≡ different xs
unfolding pointed
pointed-fit z xs few e b =
    let t : take z.n (fit 32 xs) ≡ xs = ap (λ (m : ℕ). take m (fit 32 xs)) (sym e) ∙ take-fit 32 xs (omega (arith, few, e)) in
    let d : every (λ x. eqb x 0) (drop z.n (fit 32 xs)) ≡ true = ap (λ (m : ℕ). every (λ x. eqb x 0) (drop m (fit 32 xs))) (sym e) ∙ zeros-behind 32 xs in
    rw (eq-eqb (length (fit 32 xs)) 32 (length-fit 32 xs), all-below 256 (fit 32 xs) (fit-bytes 32 xs b), t, d) (by (different xs))
  where
    by : (t : Bool) → pick t true false ≡ t
    by true = refl
    by false = refl

-- ---- the line

-- m pairs are left behind these bytes
abbrev Left : ℕ → ℕ → List ℕ → Type 0
Left n m xs = (length xs + m ≡ n) × Bytes xs

module _ (n : ℕ) (few : n ≤ 32) where
  left-keeps : (m : ℕ) (xs : List ℕ) (x : ℕ) → Left n (suc m) xs → x < 256 → Left n m (xs ++ (x ∷ []))
  left-keeps m xs x i h = (omega (arith, i.0, length-append xs (x ∷ [])), append-all (λ y. y < 256) xs (x ∷ []) i.1 (h, tt))

  one_more : (m : ℕ) (xs : List ℕ) → Left n (suc m) xs → may_point n (suc m) xs ≡ true → (x : ℕ) × (x < 256) × (may_point n m (xs ++ (x ∷ [])) ≡ true)
  one_more m xs i e =
      let d = (alls-hold (different xs ∷ pick (eqb (suc m) 0) (not (same xs (tabulate n (λ i. i)))) true ∷ []) e).0 in
      let x = left_out 32 (length xs ∷ xs) (omega (arith, i.0, few)) in
      let a = not-among-cons (length xs) x.0 xs x.2 in (
        x.0,
        omega (arith, x.1),
        hold-alls (different (xs ++ (x.0 ∷ [])) ∷ pick (eqb m 0) (not (same (xs ++ (x.0 ∷ [])) (tabulate n (λ i. i)))) true ∷ [])
            (different-more xs x.0 d a.1, (by (eqb m 0) (ap not (not-in-order n xs x.0 (omega (arith, i.0)) (λ q. a.0 (sym q)))), tt)),
      )
    where
      by : (t : Bool) {s : Bool} → s ≡ true → pick t s true ≡ true
      by true e = e
      by false e = refl

  one_less : (m : ℕ) (xs : List ℕ) (x : ℕ) → may_point n m (xs ++ (x ∷ [])) ≡ true → may_point n (suc m) xs ≡ true
  one_less m xs x e =
      let d = (alls-hold (different (xs ++ (x ∷ [])) ∷ pick (eqb m 0) (not (same (xs ++ (x ∷ [])) (tabulate n (λ i. i)))) true ∷ []) e).0 in
      hold-alls (different xs ∷ pick (eqb (suc m) 0) (not (same xs (tabulate n (λ i. i)))) true ∷ []) (different-less xs (x ∷ []) d, (if-ne (suc m) 0 _ true (λ q. omega (arith, q)), tt))

-- whether a whole row of points may stand
may-tell : (z : Sizes) → z.n ≤ 32 → (xs : List ℕ) → Left z.n 0 xs → tellable z xs ≡ may_point z.n 0 xs
may-tell z few xs i =
    ap (λ (t : Bool). alls (t ∷ not (same xs (tabulate z.n (λ i. i))) ∷ [])) (pointed-fit z xs few (omega (arith, i.0)) i.1)

-- ---- the line of points or none: tests that tell by the first byte

common-apart : (input w : List ℕ) → (get_or input 0 0 ≡ get_or w 0 0 → ⊥) → common input w ≡ 0
common-apart [] w h = refl
common-apart (a ∷ input) [] h = refl
common-apart (a ∷ input) (b ∷ w) h = rw (ne_eqb a b h)

pub best-either : (c : ℕ) (p q : List ℕ → Bool) (input : List ℕ) (a b : ℕ) → ((w : List ℕ) → p w ≡ true → get_or w 0 0 ≡ c)
    → ((w : List ℕ) → q w ≡ true → get_or w 0 0 ≢ c)
    → Best p input a → Best q input b → Best (λ w. pick (eqb (get_or w 0 0) c) (p w) (q w)) input (pick (eqb (get_or input 0 0) c) a b)
best-either c p q input a b starts others r s = by (eqb (get_or input 0 0) c) refl
  where
    either : List ℕ → Bool
    either w = pick (eqb (get_or w 0 0) c) (p w) (q w)

    further : (d : ℕ) (w : List ℕ) → either w ≡ true → (get_or w 0 0 ≡ c → p w ≡ true → common input w ≤ d)
        → (get_or w 0 0 ≢ c → q w ≡ true → common input w ≤ d) → common input w ≤ d
    further d w e f g = on-byte (eqb (get_or w 0 0) c) refl e
      where
        on-byte : (t : Bool) → eqb (get_or w 0 0) c ≡ t → pick t (p w) (q w) ≡ true → common input w ≤ d
        on-byte true h e = f (eqb-true (get_or w 0 0) c h) e
        on-byte false h e = g (eqb-false (get_or w 0 0) c h) e

    by : (t : Bool) → eqb (get_or input 0 0) c ≡ t → Best either input (pick t a b)
    by true h =
        let here = eqb-true (get_or input 0 0) c h in
        record {
          text = r.text;
          is-accepted = yes (eqb (get_or r.text 0 0) c) _ _ (eq-eqb (get_or r.text 0 0) c (starts r.text r.is-accepted)) ∙ r.is-accepted;
          as-far = r.as-far;
          no-further = λ w e. further a w e (λ _ f. r.no-further w f) (λ n _. omega (arith, common-apart input w (λ k. n (sym k ∙ here))));
        }
    by false h =
        let there = eqb-false (get_or input 0 0) c h in
        record {
          text = s.text;
          is-accepted = if-ne (get_or s.text 0 0) c _ _ (others s.text s.is-accepted) ∙ s.is-accepted;
          as-far = s.as-far;
          no-further = λ w e. further b w e (λ k _. omega (arith, common-apart input w (λ l. there (l ∙ k)))) (λ _ f. s.no-further w f);
        }

module _ {A : Type 0} (bad : A) (P : A → Bool) (bad-not : P bad ≡ false) where
  pub name-starts : (c : ℕ) (name w : List ℕ) (go : List ℕ → A) → P (read_name bad (c ∷ name) w go) ≡ true → get_or w 0 0 ≡ c
  name-starts c name [] go e = absurd (true-false e bad-not)
  name-starts c name (b ∷ w) go e = by (eqb b c) refl e
    where
      by : (t : Bool) → eqb b c ≡ t → P (pick t (read_name bad name w go) bad) ≡ true → b ≡ c
      by true h e = eqb-true b c h
      by false h e = absurd (true-false e bad-not)

  module _ (z : Sizes) (few : z.n ≤ 32) (some : 1 ≤ z.n) (go : List ℕ → List ℕ → A) (count : List ℕ → ℕ)
      (rest : (xs input : List ℕ) → Best (λ w. P (go xs w)) input (count input)) (others : (xs w : List ℕ) → P (go xs w) ≡ true → get_or w 0 0 ≢ 0x70) where
    abbrev told : List ℕ → List ℕ → A
    told xs w = pick (tellable z xs) (go (fit 32 xs) w) bad

    ends : (xs : List ℕ) → Left z.n 0 xs → may_point z.n 0 xs ≡ true → (input : List ℕ) → Best (λ w. P (told xs w)) input (count input)
    ends xs i e input =
        best-same (λ w. P (go (fit 32 xs) w)) (λ w. P (told xs w)) input (count input)
        (λ w. sym (ap P (yes (tellable z xs) _ bad (may-tell z few xs i ∙ e)))) (rest (fit 32 xs) input)

    never : (xs : List ℕ) → Left z.n 0 xs → may_point z.n 0 xs ≡ false → None (λ w. P (told xs w))
    never xs i e w = ap P (no (tellable z xs) _ bad (may-tell z few xs i ∙ e)) ∙ bad-not

    at_first : may_point z.n z.n [] ≡ true
    at_first = rw (ne_eqb z.n 0 (λ e. omega (arith, e, some)))

    line-best : (input : List ℕ)
        → Best (λ w. P (read_points bad z.n w told)) input (name_on points_name input (λ input. pairs_on (may_point z.n) z.n [] input count))
    line-best input =
        name-best bad P bad-not (λ w. read_pairs bad z.n w told) (λ input. pairs_on (may_point z.n) z.n [] input count)
        (λ input.
        pairs-best bad P bad-not (may_point z.n) (Left z.n) told count (left-keeps z.n few) (one_more z.n few) (λ m xs x _ _ e. one_less z.n few m xs x e)
        ends never z.n [] input (omega arith, tt) at_first)
        points_name input

    pub points-best : (input : List ℕ) → Best (λ w. P (some_points bad z w go)) input
        (pick (eqb (get_or input 0 0) 0x70) (name_on points_name input (λ input. pairs_on (may_point z.n) z.n [] input count)) (count input))
    unfolding some_points
    points-best input =
        best-same (λ w. pick (eqb (get_or w 0 0) 0x70) (P (read_points bad z.n w told)) (P (go (standard z) w))) (λ w. P (some_points bad z w go)) input _ both
        (best-either 0x70 (λ w. P (read_points bad z.n w told)) (λ w. P (go (standard z) w)) input _ _
        (λ w e. name-starts 0x70 (0x6F ∷ 0x69 ∷ 0x6E ∷ 0x74 ∷ 0x73 ∷ 0x3D ∷ []) w (λ w. read_pairs bad z.n w told) e) (others (standard z))
        (line-best input) (rest (standard z) input))
      where
        both : (w : List ℕ) → pick (eqb (get_or w 0 0) 0x70) (P (read_points bad z.n w told)) (P (go (standard z) w)) ≡ P (some_points bad z w go)
        both w = by (eqb (get_or w 0 0) 0x70) refl
          where
            by : (t : Bool) → eqb (get_or w 0 0) 0x70 ≡ t
                → pick t (P (read_points bad z.n w told)) (P (go (standard z) w)) ≡ P (pick t (read_points bad z.n w told) (go (standard z) w))
            by true e = refl
            by false e = refl
