-- Lines at a place, a byte at a time.
-- Assumes nothing.
use mathlib.Core.Path.{◌≡◌, refl, sym, ap, ap₂, ◌∙◌}
use mathlib.Core.Bool.{Bool, true, false}
use mathlib.Core.Logic.{◌≢◌}
use mathlib.Core.List.{List, [], ◌∷◌}
use Prim.Native.Nat.{ℕ, suc, ◌+◌, ◌-◌, ◌≤◌, ◌<◌}
use native.Mathlib.Decide.{dec_lt}
use native.Mathlib.Numerals.{add-one}
use native.Mathlib.Omega.{arith}
use lib.ListN.{length, get_or, drop, drop_of_length-le, get_or-eq_default}
use lib.Seq.{drop-cons}
use Rattle.lists.specs.Tests.{pick}
use Rattle.number_lines.specs.declared.Reader.{Reader}
use Rattle.number_lines.specs.declared.Read.TheVariants.{More, Whole, Malformed}
use Rattle.number_lines.specs.Steps.{fed, told, reads}
use Rattle.number_lines.proofs.Picks.{yes as pick_yes, no as pick_no, if-eq, if-ne}
use Rattle.point_lines.specs.Lines.{hexadecimal, digit_value, read_digit, read_name, read_pairs}
use Rattle.point_lines.proofs.Digits.{digit_low}
use Rattle.text_in.specs.Steps.{nibble}

-- what is left, by its first byte
next : (text : List ℕ) (i : ℕ) → i < length text → drop i text ≡ get_or text i 0 ∷ drop (i + 1) text
next text i h = drop-cons text i 0 h ∙ ap (λ (m : ℕ). get_or text i 0 ∷ drop m text) (sym (add-one i))

-- nothing is left
pub past : (text : List ℕ) (i : ℕ) → length text ≤ i → drop i text ≡ []
past text i h = drop_of_length-le text h

-- ---- a number

module _ {A : Type 0} (bad : A) (name : List ℕ) (most : ℕ) (text : List ℕ) (i : ℕ) (r : Reader) (go : ℕ → List ℕ → A) where
  step : i < length text → reads bad name most r (drop i text) go
      ≡ told bad (λ r. reads bad name most r (drop (i + 1) text) go) (λ v. go v (drop (i + 1) text)) (fed name most r (get_or text i 0))
  step h = ap (λ (l : List ℕ). reads bad name most r l go) (next text i h)

  pub more : i < length text → {q : Reader} → fed name most r (get_or text i 0) ≡ More q
      → reads bad name most q (drop (i + 1) text) go ≡ reads bad name most r (drop i text) go
  more h e = sym (step h ∙ ap (told bad (λ r. reads bad name most r (drop (i + 1) text) go) (λ v. go v (drop (i + 1) text))) e)

  pub whole : i < length text → {v : ℕ} → fed name most r (get_or text i 0) ≡ Whole v → reads bad name most r (drop i text) go ≡ go v (drop (i + 1) text)
  whole h e = step h ∙ ap (told bad (λ r. reads bad name most r (drop (i + 1) text) go) (λ v. go v (drop (i + 1) text))) e

  pub malformed : i < length text → fed name most r (get_or text i 0) ≡ Malformed → reads bad name most r (drop i text) go ≡ bad
  malformed h e = step h ∙ ap (told bad (λ r. reads bad name most r (drop (i + 1) text) go) (λ v. go v (drop (i + 1) text))) e

  pub ended : length text ≤ i → reads bad name most r (drop i text) go ≡ bad
  ended h = ap (λ (l : List ℕ). reads bad name most r l go) (past text i h)

-- ---- bytes

module _ {A : Type 0} (bad : A) (text name : List ℕ) (i j : ℕ) (go : List ℕ → A) where
  pub name-more : i < length text → j < length name → get_or text i 0 ≡ get_or name j 0
      → read_name bad (drop (j + 1) name) (drop (i + 1) text) go ≡ read_name bad (drop j name) (drop i text) go
  name-more h k e =
      sym (ap₂ {C = A} (λ (n l : List ℕ). read_name bad n l go) (next name j k) (next text i h) ∙ if-eq (get_or text i 0) (get_or name j 0) _ _ e)

  pub name-other : i < length text → j < length name → get_or text i 0 ≢ get_or name j 0 → read_name bad (drop j name) (drop i text) go ≡ bad
  name-other h k e = ap₂ {C = A} (λ (n l : List ℕ). read_name bad n l go) (next name j k) (next text i h) ∙ if-ne (get_or text i 0) (get_or name j 0) _ _ e

  pub name-past : length text ≤ i → j < length name → read_name bad (drop j name) (drop i text) go ≡ bad
  name-past h k = ap₂ {C = A} (λ (n l : List ℕ). read_name bad n l go) (next name j k) (past text i h)

  pub name-ends : length name ≤ j → read_name bad (drop j name) (drop i text) go ≡ go (drop i text)
  name-ends k = ap (λ (n : List ℕ). read_name bad n (drop i text) go) (past name j k)

-- ---- pairs

-- a digit stands within the text
pub digit-within : (text : List ℕ) (i : ℕ) → hexadecimal (get_or text i 0) ≡ true → i < length text
digit-within text i h = by (dec_lt i (length text))
  where
    by : Dec (i < length text) → i < length text
    by (yes l) = l
    by (no l) =
        let z : ◌≡◌ {A = Bool} false true = ap hexadecimal (sym (get_or-eq_default text 0 {n = i} (omega arith))) ∙ h in
        let q : ◌≡◌ {A = ℕ} 0 1 = cc in
        absurd (omega arith)

module _ {A : Type 0} (bad : A) (text : List ℕ) (i : ℕ) where
  digit-none : (go : ℕ → List ℕ → A) → hexadecimal (get_or text i 0) ≡ false → read_digit bad (drop i text) go ≡ bad
  digit-none go h = by (dec_lt i (length text))
    where
      by : Dec (i < length text) → read_digit bad (drop i text) go ≡ bad
      by (yes l) = ap (λ (l : List ℕ). read_digit bad l go) (next text i l) ∙ pick_no (hexadecimal (get_or text i 0)) _ _ h
      by (no l) = ap (λ (l : List ℕ). read_digit bad l go) (past text i (omega arith))

  digit-some : (go : ℕ → List ℕ → A) → hexadecimal (get_or text i 0) ≡ true
      → read_digit bad (drop i text) go ≡ go (digit_value (get_or text i 0)) (drop (i + 1) text)
  digit-some go h =
      ap (λ (l : List ℕ). read_digit bad l go) (next text i (digit-within text i h)) ∙ pick_yes (hexadecimal (get_or text i 0)) _ _ h

-- what is answered does not go by the bytes
module _ {A : Type 0} (bad : A) (text : List ℕ) (i left : ℕ) (t : A) where
  abbrev given : List ℕ → List ℕ → A
  given xs rest = t

  one : 0 < left → read_pairs bad left (drop i text) given ≡ read_pairs bad (suc (left - 1)) (drop i text) given
  one h = ap (λ (n : ℕ). read_pairs bad n (drop i text) given) (let e : left ≡ suc (left - 1) = omega arith in e)

  pub high-none : 0 < left → hexadecimal (get_or text i 0) ≡ false → read_pairs bad left (drop i text) given ≡ bad
  high-none h e = one h ∙ digit-none bad text i _ e

  pub low-none : 0 < left → hexadecimal (get_or text i 0) ≡ true → hexadecimal (get_or text (i + 1) 0) ≡ false → read_pairs bad left (drop i text) given ≡ bad
  low-none h e f = one h ∙ digit-some bad text i _ e ∙ digit-none bad text (i + 1) _ f

  pub pair-more : 0 < left → hexadecimal (get_or text i 0) ≡ true → hexadecimal (get_or text (i + 1) 0) ≡ true
      → read_pairs bad (left - 1) (drop (i + 2) text) given ≡ read_pairs bad left (drop i text) given
  pair-more h e f =
      sym (one h ∙ digit-some bad text i _ e ∙ digit-some bad text (i + 1) _ f
      ∙ ap (λ (m : ℕ). read_pairs bad (left - 1) (drop m text) given) (let q : i + 1 + 1 ≡ i + 2 = omega arith in q))

module _ {A : Type 0} (bad : A) (text : List ℕ) (i : ℕ) (t : A) where
  pub end-past : length text ≤ i → read_pairs bad 0 (drop i text) (λ xs rest. t) ≡ bad
  end-past h = ap (λ (l : List ℕ). read_pairs bad 0 l (λ xs rest. t)) (past text i h)

  pub end-other : i < length text → get_or text i 0 ≢ 10 → read_pairs bad 0 (drop i text) (λ xs rest. t) ≡ bad
  end-other h e = ap (λ (l : List ℕ). read_pairs bad 0 l (λ xs rest. t)) (next text i h) ∙ if-ne (get_or text i 0) 10 _ _ e

  pub end-there : i < length text → get_or text i 0 ≡ 10 → read_pairs bad 0 (drop i text) (λ xs rest. t) ≡ t
  end-there h e = ap (λ (l : List ℕ). read_pairs bad 0 l (λ xs rest. t)) (next text i h) ∙ if-eq (get_or text i 0) 10 _ _ e

-- ---- the bytes that pairs spell

pub nibble-low : (b : ℕ) → nibble b < 16
nibble-low b = by (hexadecimal b) refl
  where
    by : (t : Bool) → hexadecimal b ≡ t → pick t (digit_value b) 0 < 16
    by true e = digit_low b e
    by false e = omega arith
