-- How far pairs go from a place of a text.
-- Assumes nothing.
use mathlib.Core.Path.{◌≡◌, refl, sym, ap, ap₂, ◌∙◌}
use mathlib.Core.Bool.{Bool, true, false}
use mathlib.Core.List.{List, [], ◌∷◌, ◌++◌}
use Prim.Native.Nat.{ℕ, zero, suc, ◌+◌, ◌*◌, ◌-◌, ◌≤◌, ◌<◌}
use native.Mathlib.Omega.{arith}
use lib.Dec.{ltb}
use lib.ListN.{length, get_or, take, drop, length-append, length-drop}
use lib.Seq.{take-take, take_at, length-take-le}
use borrow.Author.Tests.{ltb-true, ltb-false}
use Rattle.lists.specs.Tests.{pick, alls}
use Rattle.point_lines.specs.Lines.{hexadecimal, digit_value}
use Rattle.text_in.proofs.At.{digit-within}
use Rattle.prefix_spec.specs.Prefix.{on, some, low_on, pair_on, pairs_on, may_point}
use Rattle.prefix_steps.specs.declared.Went.{Went}
use Rattle.prefix_steps.specs.Steps.{Goes}
use Rattle.prefix_steps.proofs.Steps.{at_byte, past}

module _ (text : List ℕ) (i : ℕ) (may : ℕ → Bool) (go : ℕ → List ℕ → ℕ) where
  abbrev high : ℕ
  high = get_or text i 0

  abbrev low : ℕ
  low = get_or text (i + 1) 0

  abbrev fits : ℕ → Bool
  fits v = may (16 * digit_value high + v)

  abbrev onward : List ℕ → ℕ
  onward input = low_on fits input (λ v input. go (16 * digit_value high + v) input)

  at_high : i < length text → pair_on may (drop i text) go ≡ on (alls (hexadecimal high ∷ some 16 fits ∷ [])) (onward (drop (i + 1) text))
  at_high h = ap (λ (l : List ℕ). pair_on may l go) (at_byte text i h)

  -- no first digit
  pub high-none : hexadecimal high ≡ false → i + pair_on may (drop i text) go ≡ i
  high-none e = by (ltb i (length text)) refl
    where
      by : (t : Bool) → ltb i (length text) ≡ t → i + pair_on may (drop i text) go ≡ i
      by true h =
          let q : pair_on may (drop i text) go ≡ 0 = at_high (ltb-true i (length text) h) ∙ (rw e) in
          omega (arith, q)
      by false h =
          let q : pair_on may (drop i text) go ≡ 0 = ap (λ (l : List ℕ). pair_on may l go) (past text i (ltb-false i (length text) h)) in
          omega (arith, q)

  module _ (first : hexadecimal high ≡ true) where
    -- a first digit with which no byte may stand
    pub high-shut : some 16 fits ≡ false → i + pair_on may (drop i text) go ≡ i
    high-shut e =
        let q : pair_on may (drop i text) go ≡ 0 = at_high (digit-within text i first) ∙ (rw (first, e)) in
        omega (arith, q)

    module _ (opened : some 16 fits ≡ true) where
      one : pair_on may (drop i text) go ≡ suc (onward (drop (i + 1) text))
      one = at_high (digit-within text i first) ∙ (rw (first, opened))

      pub low-none : hexadecimal low ≡ false → i + pair_on may (drop i text) go ≡ i + 1
      low-none e = by (ltb (i + 1) (length text)) refl
        where
          by : (t : Bool) → ltb (i + 1) (length text) ≡ t → i + pair_on may (drop i text) go ≡ i + 1
          by true h =
              let q : onward (drop (i + 1) text) ≡ 0 = ap onward (at_byte text (i + 1) (ltb-true (i + 1) (length text) h)) ∙ (rw e) in
              omega (arith, one, q)
          by false h =
              let q : onward (drop (i + 1) text) ≡ 0 = ap onward (past text (i + 1) (ltb-false (i + 1) (length text) h)) in
              omega (arith, one, q)

      module _ (second : hexadecimal low ≡ true) where
        pub low-shut : fits (digit_value low) ≡ false → i + pair_on may (drop i text) go ≡ i + 1
        low-shut e =
            let q : onward (drop (i + 1) text) ≡ 0 = ap onward (at_byte text (i + 1) (digit-within text (i + 1) second)) ∙ (rw (second, e)) in
            omega (arith, one, q)

        pub pair-on : fits (digit_value low) ≡ true → i + pair_on may (drop i text) go ≡ i + 2 + go (16 * digit_value high + digit_value low) (drop (i + 2) text)
        pair-on e =
            let two : i + 1 + 1 ≡ i + 2 = omega arith in
            let q : onward (drop (i + 1) text) ≡ suc (go (16 * digit_value high + digit_value low) (drop (i + 2) text)) =
            ap onward (at_byte text (i + 1) (digit-within text (i + 1) second)) ∙ (rw (second, e))
            ∙ ap (λ (m : ℕ). suc (go (16 * digit_value high + digit_value low) (drop m text))) two in
            omega (arith, one, q)

-- ---- pairs of any bytes

abbrev pub any : ℕ → List ℕ → Bool
any m xs = true

-- the bytes before do not matter
any-bytes : (m : ℕ) (xs ys input : List ℕ) (go : List ℕ → ℕ) → pairs_on any m xs input go ≡ pairs_on any m ys input go
any-bytes zero xs ys input go = refl
any-bytes (suc m) xs ys [] go = refl
any-bytes (suc m) xs ys (b ∷ []) go = refl
any-bytes (suc m) xs ys (b ∷ c ∷ input) go =
    let x : ℕ = 16 * digit_value b + digit_value c in
    ap (λ (r : ℕ). on (alls (hexadecimal b ∷ true ∷ [])) (on (alls (hexadecimal c ∷ true ∷ [])) r))
    (any-bytes m (xs ++ ((16 * digit_value b + digit_value c) ∷ [])) (ys ++ ((16 * digit_value b + digit_value c) ∷ [])) input go)

module _ (text : List ℕ) (i left : ℕ) (some_left : 0 < left) (go : List ℕ → ℕ) where
  abbrev next : ℕ → List ℕ → ℕ
  next x input = pairs_on any (left - 1) (x ∷ []) input go

  one-pair : pairs_on any left [] (drop i text) go ≡ pair_on (λ x. true) (drop i text) next
  one-pair = let e : left ≡ suc (left - 1) = omega (arith, some_left) in ap (λ (m : ℕ). pairs_on any m [] (drop i text) go) e

  pub data-high : hexadecimal (get_or text i 0) ≡ false → i + pairs_on any left [] (drop i text) go ≡ i
  data-high e = ap (λ (m : ℕ). i + m) one-pair ∙ high-none text i (λ x. true) next e

  pub data-low : hexadecimal (get_or text i 0) ≡ true → hexadecimal (get_or text (i + 1) 0) ≡ false → i + pairs_on any left [] (drop i text) go ≡ i + 1
  data-low h e = ap (λ (m : ℕ). i + m) one-pair ∙ low-none text i (λ x. true) next h refl e

  pub data-more : hexadecimal (get_or text i 0) ≡ true → hexadecimal (get_or text (i + 1) 0) ≡ true
      → i + 2 + pairs_on any (left - 1) [] (drop (i + 2) text) go ≡ i + pairs_on any left [] (drop i text) go
  data-more h l =
      ap (λ (m : ℕ). i + 2 + m) (any-bytes (left - 1) [] (_ ∷ []) (drop (i + 2) text) go)
      ∙ sym (ap (λ (m : ℕ). i + m) one-pair ∙ pair-on text i (λ x. true) next h refl l refl)

-- ---- the line of points, pair by pair

pub points-step : (text xs part : List ℕ) (n i j : ℕ) → j < n → length part ≡ j + 1 → take (length part - 1) part ≡ xs → (w : Went)
    → Goes text i (pair_on (λ x. may_point (length part + (n - (j + 1))) (n - (j + 1)) (take (length part - 1) part ++ (x ∷ []))) (drop i text)) w
    → (go : List ℕ → ℕ) → i + pairs_on (may_point n) (n - j) xs (drop i text) go
    ≡ pick w.ok (w.at + pairs_on (may_point n) (n - (j + 1)) (xs ++ (w.value ∷ [])) (drop w.at text) go) w.at
points-step text xs part n i j h e t w g go =
    let one : n - j ≡ suc (n - (j + 1)) = omega (arith, h) in
    let all : length part + (n - (j + 1)) ≡ n = omega (arith, h, e) in
    ap (λ (m : ℕ). i + pairs_on (may_point n) m xs (drop i text) go) one
    ∙ ap₂ (λ (m : ℕ) (l : List ℕ). i + pair_on (λ x. may_point m (n - (j + 1)) (l ++ (x ∷ []))) (drop i text)
    (λ x input. pairs_on (may_point n) (n - (j + 1)) (xs ++ (x ∷ [])) input go)) (sym all) (sym t)
    ∙ g (λ x input. pairs_on (may_point n) (n - (j + 1)) (xs ++ (x ∷ [])) input go)

-- the first j + 1 of a list, as a part of it is lent
pub part-long : (l : List ℕ) (j : ℕ) → j + 1 ≤ length l → length (take (j + 1 - 0) l) ≡ j + 1
part-long l j h = let e : j + 1 - 0 ≡ j + 1 = omega arith in length-take-le (j + 1 - 0) l (omega (arith, h)) ∙ e

pub part-before : (l : List ℕ) (j : ℕ) → j + 1 ≤ length l → take (length (take (j + 1 - 0) l) - 1) (take (j + 1 - 0) l) ≡ take j l
part-before l j h =
    let e : length (take (j + 1 - 0) l) - 1 ≡ j = omega (arith, part-long l j h) in
    ap (λ (m : ℕ). take m (take (j + 1 - 0) l)) e ∙ take-take j (j + 1 - 0) l (omega arith)

-- and as it is given back
pub part-back : (l new : List ℕ) (j : ℕ) → length new ≡ j + 1 → take (j + 1) (new ++ drop (j + 1 - 0) l) ≡ new
part-back l new j e = take_at new (drop (j + 1 - 0) l) (j + 1) e

pub part-whole : (l new : List ℕ) (j : ℕ) → length new ≡ j + 1 → j + 1 ≤ length l → length (new ++ drop (j + 1 - 0) l) ≡ length l
part-whole l new j e h =
    length-append new (drop (j + 1 - 0) l) ∙ (let d = length-drop (j + 1 - 0) l in omega (arith, e, h, d))

-- the part with its last byte
pub part-new : (l new : List ℕ) (j x : ℕ) → j + 1 ≤ length l → new ≡ take (length (take (j + 1 - 0) l) - 1) (take (j + 1 - 0) l) ++ (x ∷ [])
    → (new ≡ take j l ++ (x ∷ [])) × (length new ≡ j + 1)
part-new l new j x h e =
    let q : new ≡ take j l ++ (x ∷ []) = e ∙ ap (λ (m : List ℕ). m ++ (x ∷ [])) (part-before l j h) in
    let t = length-take-le j l (omega (arith, h)) in
    (q, ap length q ∙ length-append (take j l) (x ∷ []) ∙ ap (λ (m : ℕ). m + 1) t)
