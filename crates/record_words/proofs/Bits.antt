-- What makes words a record; bits of a number and numbers of bits: the turns of the loops.
-- Assumes nothing.
use Prim.Native.Nat.{ℕ, zero, suc, ◌+◌, ◌*◌, ◌-◌, ◌/◌, ◌%◌, ◌≤◌, ◌<◌}
use mathlib.Core.Path.{◌≡◌, refl, sym, ap, ap₂, subst, ◌∙◌}
use mathlib.Core.Bool.{Bool, true, false}
use mathlib.Core.List.{List, [], ◌∷◌, ◌++◌}
use native.Mathlib.Numerals.{add-one}
use native.Mathlib.Omega.{arith}
use lib.Dec.{eqb, ltb}
use lib.ListN.{length, get_or, drop, set, length-drop}
use lib.Seq.{drop-cons, get_or-drop}
use borrow.Author.Tests.{eq-eqb, ne_eqb, eqb-true, lt-ltb, le-ltb, ltb-true}
use Rattle.lists.specs.Tests.{pick, every}
use Rattle.lists.specs.Lists.{All}
use Rattle.lists.proofs.Alls.{all-imp, all_of}
use Rattle.lists.proofs.Tests.{alls-hold, every-all, all-every}
use Rattle.record_words.specs.Words.{bits, from_bits, word, is_record}

-- ---- what makes twelve words a record

pub not-twelve : (ws : List ℕ) → (length ws ≡ 12 → ⊥) → false ≡ is_record ws
unfolding is_record
not-twelve ws h = rw (ne_eqb (length ws) 12 h) refl

pub not_written : (ws : List ℕ) → length ws ≡ 12 → 1 < get_or ws 5 0 → false ≡ is_record ws
unfolding is_record
not_written ws e h = rw (eq-eqb (length ws) 12 e, le-ltb (get_or ws 5 0) 2 (omega arith)) refl

last-test : (b : Bool) → b ≡ pick b true false
last-test true = refl
last-test false = refl

-- words of the machine
pub all_words : (l : List ℕ) → All (λ w. w < 18446744073709551616) l → every word l ≡ true
all_words l h = all-every word l (all-imp (λ w. w < 18446744073709551616) (λ w. word w ≡ true) (λ w k. lt-ltb w 18446744073709551616 k) l h)

pub last-words : (ws : List ℕ) → ((i : ℕ) → get_or ws i 0 < 18446744073709551616) → every word (drop 8 ws) ≡ true
last-words ws h =
    all_words (drop 8 ws) (all_of (λ w. w < 18446744073709551616) 0 (drop 8 ws) (λ i k. subst (λ (w : ℕ). w < 18446744073709551616) (sym (get_or-drop 8 ws i 0)) (h (8 + i))))

pub by-marks : (ws : List ℕ) → length ws ≡ 12 → get_or ws 5 0 ≤ 1 → every word (drop 8 ws) ≡ true → ltb (get_or ws 7 0) 4294967296 ≡ is_record ws
unfolding is_record
by-marks ws e h w = rw (eq-eqb (length ws) 12 e, lt-ltb (get_or ws 5 0) 2 (omega arith), w) (last-test (ltb (get_or ws 7 0) 4294967296))

pub record Words (ws : List ℕ) : Type 0 where
  pub twelve : length ws ≡ 12
  pub flag : get_or ws 5 0 < 2
  pub marks-few : get_or ws 7 0 < 4294967296
  pub point-words : All (λ w. w < 18446744073709551616) (drop 8 ws)

pub words-facts : (ws : List ℕ) → is_record ws ≡ true → Words ws
unfolding is_record
words-facts ws h =
    let e = alls-hold (eqb (length ws) 12 ∷ ltb (get_or ws 5 0) 2 ∷ ltb (get_or ws 7 0) 4294967296 ∷ every word (drop 8 ws) ∷ []) h in
    record {
      twelve = eqb-true _ _ e.0;
      flag = ltb-true _ _ e.1.0;
      marks-few = ltb-true _ _ e.1.1.0;
      point-words =
          all-imp (λ w. word w ≡ true) (λ w. w < 18446744073709551616) (λ w k. ltb-true w 18446744073709551616 k) (drop 8 ws)
          (every-all word (drop 8 ws) e.1.1.1.0);
    }

-- ---- the loop that fills in marks

-- the number that is left after i bits
abbrev pub rest : ℕ → ℕ → ℕ
rest zero w = w
rest (suc i) w = rest i (w / 2)

rest-next : (i w : ℕ) → rest i w / 2 ≡ rest (suc i) w
rest-next zero w = refl
rest-next (suc i) w = rest-next i (w / 2)

bits-next : (i w : ℕ) → bits i w ++ (eqb (rest i w % 2) 1 ∷ []) ≡ bits (suc i) w
bits-next zero w = refl
bits-next (suc i) w = ap (λ (l : List Bool). eqb (w % 2) 1 ∷ l) (bits-next i (w / 2))

set_next : (i w : ℕ) (l : List Bool) → i < length l → set (bits i w ++ drop i l) i (eqb (rest i w % 2) 1) ≡ bits (suc i) w ++ drop (suc i) l
set_next zero w [] h = absurd (omega arith)
set_next zero w (x ∷ l) h = refl
set_next (suc i) w [] h = absurd (omega arith)
set_next (suc i) w (x ∷ l) h = ap (λ (r : List Bool). eqb (w % 2) 1 ∷ r) (set_next i (w / 2) l (omega arith))

pub fill-next : (i w : ℕ) (l₀ l : List Bool) (v : Bool) → i < length l₀ → v ≡ eqb (rest i w % 2) 1 → l ≡ bits i w ++ drop i l₀ → set l i v ≡ bits (i + 1) w ++ drop (i + 1) l₀
fill-next i w l₀ l v h ev el = ap₂ {C = List Bool} (λ (x : List Bool) (b : Bool). set x i b) el ev ∙ set_next i w l₀ h ∙ ap (λ (m : ℕ). bits m w ++ drop m l₀) (sym (add-one i))

pub half-next : (i w r : ℕ) → r ≡ rest i w → r / 2 ≡ rest (i + 1) w
half-next i w r e = ap (λ (m : ℕ). m / 2) e ∙ rest-next i w ∙ ap (λ (m : ℕ). rest m w) (sym (add-one i))

-- ---- the loop that makes a number

pub number-next : (marks : List Bool) (i : ℕ) → i < length marks → from_bits (drop i marks) ≡ pick (get_or marks i false) 1 0 + 2 * from_bits (drop (i + 1) marks)
number-next marks i h = ap from_bits (drop-cons marks i false h) ∙ ap (λ (m : ℕ). pick (get_or marks i false) 1 0 + 2 * from_bits (drop m marks)) (sym (add-one i))

abbrev pub power : ℕ → ℕ
power zero = 1
power (suc m) = 2 * power m

pub bit-few : (b : Bool) → pick b 1 0 ≤ 1
bit-few true = omega arith
bit-few false = omega arith

number-under : (m : ℕ) (l : List Bool) → length l ≤ m → from_bits l < power m
number-under zero [] h = omega arith
number-under zero (b ∷ l) h = absurd (omega arith)
number-under (suc m) [] h = let p = number-under m [] (omega arith) in omega (arith, p)
number-under (suc m) (b ∷ l) h = let p = number-under m l (omega arith) in omega (arith, p, bit-few b)

pub number-few : (l : List Bool) → length l ≤ 32 → from_bits l < 4294967296
number-few l h = number-under 32 l h

pub rest-few : (marks : List Bool) (i : ℕ) → length marks ≤ 32 → from_bits (drop i marks) < 4294967296
rest-few marks i h = number-few (drop i marks) (omega (arith, h, length-drop i marks))

-- a turn of that loop
pub word_on : (marks : List Bool) (i w : ℕ) → 0 < i → i ≤ length marks → get_or marks (i - 1) false ≡ true → w ≡ from_bits (drop i marks) → w * 2 + 1 ≡ from_bits (drop (i - 1) marks)
word_on marks i w h k e ew =
    let p : i - 1 + 1 ≡ i = omega arith in
    let n = number-next marks (i - 1) (omega arith) in
    let q : from_bits (drop (i - 1) marks) ≡ 1 + 2 * from_bits (drop i marks) = n ∙ ap₂ (λ (b : Bool) (m : ℕ). pick b 1 0 + 2 * from_bits (drop m marks)) e p in
    omega (arith, q, ew)

pub word-off : (marks : List Bool) (i w : ℕ) → 0 < i → i ≤ length marks → get_or marks (i - 1) false ≡ false → w ≡ from_bits (drop i marks) → w * 2 ≡ from_bits (drop (i - 1) marks)
word-off marks i w h k e ew =
    let p : i - 1 + 1 ≡ i = omega arith in
    let n = number-next marks (i - 1) (omega arith) in
    let q : from_bits (drop (i - 1) marks) ≡ 0 + 2 * from_bits (drop i marks) = n ∙ ap₂ (λ (b : Bool) (m : ℕ). pick b 1 0 + 2 * from_bits (drop m marks)) e p in
    omega (arith, q, ew)
