-- A digit of a number by its place: bits of the marks, bytes of the points, each in its word.
-- Assumes nothing.
use mathlib.Core.Path.{◌≡◌, refl, sym, ap, ◌∙◌}
use mathlib.Core.Bool.{Bool, false}
use mathlib.Core.List.{List, [], ◌∷◌}
use Prim.Native.Nat.{ℕ, zero, suc, ◌+◌, ◌*◌, ◌/◌, ◌%◌, ◌^◌, ◌≤◌, ◌<◌}
use native.Mathlib.Nat.{zero-div, zero-mod, div-one, pow-zero, pow-succ', div-div-eq-div-mul, mul_comm}
use native.Mathlib.Omega.{arith}
use lib.Dec.{eqb}
use lib.ListN.{length, get_or, take}
use lib.Seq.{get_or-drop}
use Rattle.lists.specs.Tests.{pick}
use Rattle.lists.specs.Lists.{Bytes, piece}
use Rattle.lists.proofs.Pieces.{tabulate-at, piece-at, piece_bytes}
use Rattle.store_spec.specs.Record.{Record}
use Rattle.record_words.specs.Words.{bits, from_bits, bytes, from_bytes, words_of}
use Rattle.record_words.proofs.Bits.{bit-few}

-- digit i + 1 of a number is digit i of what is left without the lowest
deeper : (b w i : ℕ) → w / b ^ suc i % b ≡ w / b / b ^ i % b
deeper b w i = ap (λ (m : ℕ). m % b) (ap (λ (m : ℕ). w / m) (pow-succ' b i) ∙ sym (div-div-eq-div-mul w b (b ^ i)))

lowest : (b w : ℕ) → w / b ^ 0 % b ≡ w % b
lowest b w = ap (λ (m : ℕ). m % b) (ap (λ (m : ℕ). w / m) (pow-zero b) ∙ div-one w)

none : (b i : ℕ) → 0 / b ^ i % b ≡ 0
none b i = ap (λ (m : ℕ). m % b) (zero-div (b ^ i)) ∙ zero-mod b

-- ---- bits

low : (x n : ℕ) → x ≤ 1 → (x + 2 * n) % 2 ≡ x
low x n h = omega arith

half : (x n : ℕ) → x ≤ 1 → (x + 2 * n) / 2 ≡ n
half x n h = omega arith

pub bit_at : (l : List Bool) (i : ℕ) → from_bits l / 2 ^ i % 2 ≡ pick (get_or l i false) 1 0
bit_at [] i = none 2 i
bit_at (b ∷ l) zero = lowest 2 (from_bits (b ∷ l)) ∙ low (pick b 1 0) (from_bits l) (bit-few b)
bit_at (b ∷ l) (suc i) =
    deeper 2 (from_bits (b ∷ l)) i ∙ ap (λ (m : ℕ). m / 2 ^ i % 2) (half (pick b 1 0) (from_bits l) (bit-few b)) ∙ bit_at l i

pub bits_at : (m w i : ℕ) → i < m → get_or (bits m w) i false ≡ eqb (w / 2 ^ i % 2) 1
bits_at zero w i h = absurd (omega arith)
bits_at (suc m) w zero h = ap (λ (n : ℕ). eqb n 1) (sym (lowest 2 w))
bits_at (suc m) w (suc i) h = bits_at m (w / 2) i (omega arith) ∙ ap (λ (n : ℕ). eqb n 1) (sym (deeper 2 w i))

-- ---- bytes

pub byte_at : (l : List ℕ) → Bytes l → (j : ℕ) → from_bytes l / 256 ^ j % 256 ≡ get_or l j 0
byte_at [] h j = none 256 j
byte_at (b ∷ l) h zero = lowest 256 (from_bytes (b ∷ l)) ∙ low_byte b (from_bytes l) h.0
  where
    low_byte : (x n : ℕ) → x < 256 → (x + 256 * n) % 256 ≡ x
    low_byte x n k = omega arith
byte_at (b ∷ l) h (suc j) =
    deeper 256 (from_bytes (b ∷ l)) j ∙ ap (λ (m : ℕ). m / 256 ^ j % 256) (rest b (from_bytes l) h.0) ∙ byte_at l h.1 j
  where
    rest : (x n : ℕ) → x < 256 → (x + 256 * n) / 256 ≡ n
    rest x n k = omega arith

pub bytes-at : (m w i : ℕ) → i < m → get_or (bytes m w) i 0 ≡ w / 256 ^ i % 256
bytes-at zero w i h = absurd (omega arith)
bytes-at (suc m) w zero h = sym (lowest 256 w)
bytes-at (suc m) w (suc i) h = bytes-at m (w / 256) i (omega arith) ∙ sym (deeper 256 w i)

-- ---- the words in their places

pub words-length : (s : Record) → length (words_of s) ≡ 12
words-length s = refl

pub first-words : (s : Record)
    → take 7 (words_of s) ≡ s.sizes.n ∷ s.sizes.k ∷ s.sizes.d ∷ s.sizes.r ∷ s.capacity ∷ pick s.written 1 0 ∷ s.length ∷ []
first-words s = refl

pub mark-at : (s : Record) (i : ℕ) → get_or (words_of s) 7 0 / 2 ^ i % 2 ≡ pick (get_or s.marks i false) 1 0
mark-at s i = bit_at s.marks i

pub point_at : (s : Record) → Bytes s.points → (q j : ℕ) → q < 4 → j < 8 → get_or (words_of s) (8 + q) 0 / 256 ^ j % 256 ≡ get_or s.points (8 * q + j) 0
point_at s h q j hq hj =
    ap (λ (w : ℕ). w / 256 ^ j % 256) (sym (get_or-drop 8 (words_of s) q 0) ∙ tabulate-at 4 (λ q. from_bytes (piece 8 q s.points)) 0 q hq)
    ∙ byte_at (piece 8 q s.points) (piece_bytes 8 q s.points h) j
    ∙ piece-at 8 q s.points j 0 hj
    ∙ ap (λ (m : ℕ). get_or s.points (m + j) 0) (mul_comm q 8)
