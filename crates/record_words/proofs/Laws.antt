-- Words and records tell each other.
-- Assumes nothing.
use Prim.Native.Nat.{ℕ, zero, suc, ◌+◌, ◌*◌, ◌/◌, ◌%◌, ◌≤◌, ◌<◌}
use mathlib.Core.Path.{◌≡◌, refl, sym, ap, ap₂, ◌∙◌}
use mathlib.Core.Bool.{Bool, true, false}
use mathlib.Core.List.{List, [], ◌∷◌, ◌++◌}
use native.Mathlib.Nat.{mod-lt, div-add-mod'}
use native.Mathlib.Omega.{arith}
use lib.Dec.{eqb, ltb}
use lib.ListN.{length, get_or, drop, length-drop, take-append-drop}
use borrow.Author.Tests.{lt-ltb, eq-eqb}
use Rattle.lists.specs.Tests.{pick, every}
use Rattle.lists.specs.Lists.{All, tabulate, joined, piece}
use Rattle.lists.proofs.Tests.{hold-alls}
use Rattle.lists.proofs.Pieces.{tabulate-take}
use Rattle.store_spec.specs.Record.{Record}
use Rattle.record_words.specs.Words.{bits, from_bits, bytes, from_bytes, word, is_record, record_from, words_of}
use Rattle.record_words.specs.Laws.{Whole, WordLaws}
use Rattle.record_words.proofs.Bits.{power, bit-few, number-few, all_words, words-facts}
use Rattle.record_words.proofs.Points.{words-points, points-words, point-words, length-points, points-bytes, length-bytes}
use Rattle.record_words.proofs.Places.{bit_at, bits_at, byte_at, bytes-at, words-length, first-words, mark-at, point_at}

-- ---- bits

-- a number below 2, by whether it is 1
flag_is : (w : ℕ) → w < 2 → pick (eqb w 1) 1 0 ≡ w
flag_is zero h = refl
flag_is (suc zero) h = refl
flag_is (suc (suc w)) h = absurd (omega arith)

is-flag : (b : Bool) → eqb (pick b 1 0) 1 ≡ b
is-flag true = refl
is-flag false = refl

two : 0 < 2
two = omega arith

half-under : (w m : ℕ) → w < 2 * m → w / 2 < m
half-under w m h = omega (arith, div-add-mod' w 2, mod-lt w two, h)

number-bits : (m w : ℕ) → w < power m → from_bits (bits m w) ≡ w
number-bits zero w h = omega arith
number-bits (suc m) w h =
    let e = flag_is (w % 2) (mod-lt w two) in
    let n = number-bits m (w / 2) (half-under w (power m) h) in
    omega (arith, e, n, div-add-mod' w 2)

low_bit : (x n : ℕ) → x ≤ 1 → (x + 2 * n) % 2 ≡ x
low_bit x n h = omega (arith, div-add-mod' (x + 2 * n) 2, mod-lt (x + 2 * n) two, h)

high_bits : (x n : ℕ) → x ≤ 1 → (x + 2 * n) / 2 ≡ n
high_bits x n h = omega (arith, div-add-mod' (x + 2 * n) 2, mod-lt (x + 2 * n) two, h)

bits-number : (l : List Bool) → bits (length l) (from_bits l) ≡ l
bits-number [] = refl
bits-number (b ∷ l) =
    ap₂ {C = List Bool} (λ x r. x ∷ r)
    (ap (λ (w : ℕ). eqb w 1) (low_bit (pick b 1 0) (from_bits l) (bit-few b)) ∙ is-flag b)
    (ap (bits (length l)) (high_bits (pick b 1 0) (from_bits l) (bit-few b)) ∙ bits-number l)

-- ---- words

twelve-words : (ws : List ℕ) → length ws ≡ 12
    → get_or ws 0 0 ∷ get_or ws 1 0 ∷ get_or ws 2 0 ∷ get_or ws 3 0 ∷ get_or ws 4 0 ∷ get_or ws 5 0 ∷ get_or ws 6 0 ∷ get_or ws 7 0 ∷ drop 8 ws ≡ ws
twelve-words ws e =
    ap (λ (l : List ℕ). l ++ drop 8 ws) (tabulate-take 8 ws (omega arith)) ∙ take-append-drop 8 ws

four : (ws : List ℕ) → length ws ≡ 12 → length (drop 8 ws) ≡ 4
four ws e = omega (arith, length-drop 8 ws)

words_back : (ws : List ℕ) → is_record ws ≡ true → words_of (record_from ws) ≡ ws
words_back ws h =
    let f = words-facts ws h in
    ap₂ {C = List ℕ} (λ (w : ℕ) (l : List ℕ). get_or ws 0 0 ∷ get_or ws 1 0 ∷ get_or ws 2 0 ∷ get_or ws 3 0 ∷ get_or ws 4 0 ∷ w ∷ get_or ws 6 0 ∷ l)
    (flag_is (get_or ws 5 0) f.flag)
    (ap₂ {C = List ℕ} (λ (m : ℕ) (l : List ℕ). m ∷ l) (number-bits 32 (get_or ws 7 0) f.marks-few) (words-points (drop 8 ws) (four ws f.twelve) f.point-words))
    ∙ twelve-words ws f.twelve

length-bits : (m w : ℕ) → length (bits m w) ≡ m
length-bits zero w = refl
length-bits (suc m) w = ap suc (length-bits m (w / 2))

is_whole : (ws : List ℕ) → is_record ws ≡ true → Whole (record_from ws)
is_whole ws h =
    let f = words-facts ws h in
    record { marks = length-bits 32 (get_or ws 7 0); points = length-points (drop 8 ws) (four ws f.twelve); points-bytes = points-bytes (drop 8 ws) }

flag-few : (b : Bool) → pick b 1 0 < 2
flag-few true = omega arith
flag-few false = omega arith

are_words : (s : Record) → Whole s → is_record (words_of s) ≡ true
unfolding is_record
are_words s f =
    let l : List ℕ = tabulate 4 (λ q. from_bytes (piece 8 q s.points)) in
    hold-alls (eqb 12 12 ∷ ltb (pick s.written 1 0) 2 ∷ ltb (from_bits s.marks) 4294967296 ∷ every word l ∷ []) (
      refl,
      (
        lt-ltb _ 2 (flag-few s.written),
        (
          lt-ltb _ 4294967296 (number-few s.marks (omega (arith, f.marks))),
          (all_words l (point-words s.points f.points-bytes f.points), tt),
        ),
      ),
    )

record-back : (s : Record) → Whole s → record_from (words_of s) ≡ s
record-back s f =
    ap₂ {C = Record}
    (λ (w : Bool) (m : List Bool). record { sizes = s.sizes; points = joined (bytes 8) (drop 8 (words_of s)); capacity = s.capacity; written = w; length = s.length; marks = m })
    (is-flag s.written) (ap (λ (n : ℕ). bits n (from_bits s.marks)) (sym f.marks) ∙ bits-number s.marks)
    ∙ ap (λ (xs : List ℕ). record { sizes = s.sizes; points = xs; capacity = s.capacity; written = s.written; length = s.length; marks = s.marks })
    (points-words s.points f.points-bytes f.points)

are-record : (ws : List ℕ) → length ws ≡ 12 → get_or ws 5 0 < 2 → get_or ws 7 0 < 4294967296 → All (λ w. w < 18446744073709551616) (drop 8 ws) → is_record ws ≡ true
unfolding is_record
are-record ws l w m p =
    hold-alls (eqb (length ws) 12 ∷ ltb (get_or ws 5 0) 2 ∷ ltb (get_or ws 7 0) 4294967296 ∷ every word (drop 8 ws) ∷ [])
    (eq-eqb (length ws) 12 l, (lt-ltb _ 2 w, (lt-ltb _ 4294967296 m, (all_words (drop 8 ws) p, tt))))

pub word_laws : WordLaws
word_laws = record {
  words_back = words_back;
  is_whole = is_whole;
  are_words = are_words;
  record-back = record-back;
  is-record-is = λ ws. (
    (λ h. let f = words-facts ws h in (f.twelve, f.flag, f.marks-few, f.point-words)),
    (λ p. are-record ws p.0 p.1 p.2 p.3),
  );
  words-length = words-length;
  first-words = first-words;
  marks-at = mark-at;
  points-at = point_at;
  bits-length = length-bits;
  bits_at = bits_at;
  from-bits-at = bit_at;
  bytes-length = length-bytes;
  bytes-at = bytes-at;
  from-bytes-at = byte_at;
}
