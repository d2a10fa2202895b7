-- The points of eight boards in a word: bytes of a number and numbers of bytes, one the other's way back; points and their words.
-- Assumes nothing.
use mathlib.Core.Path.{◌≡◌, refl, sym, ap, ap₂, ◌∙◌}
use mathlib.Core.List.{List, [], ◌∷◌}
use Prim.Native.Nat.{ℕ, zero, suc, ◌+◌, ◌*◌, ◌/◌, ◌%◌, ◌≤◌, ◌<◌}
use native.Mathlib.Nat.{mod-lt, div-add-mod'}
use native.Mathlib.Omega.{arith}
use lib.ListN.{length}
use lib.Seq.{take_all}
use Rattle.lists.specs.Lists.{All, Bytes, tabulate, joined, piece}
use Rattle.lists.proofs.Put.{part_end}
use Rattle.lists.proofs.Pieces.{join-ext, join-piece, length-piece, piece_bytes, length-joined, joined_bytes}
use Rattle.record_words.specs.Words.{bytes, from_bytes}

abbrev power : ℕ → ℕ
power zero = 1
power (suc m) = 256 * power m

pub length-bytes : (m w : ℕ) → length (bytes m w) ≡ m
length-bytes zero w = refl
length-bytes (suc m) w = ap suc (length-bytes m (w / 256))

some : 0 < 256
some = omega arith

pub are-bytes : (m w : ℕ) → Bytes (bytes m w)
are-bytes zero w = tt
are-bytes (suc m) w = (mod-lt w some, are-bytes m (w / 256))

number-bytes : (m w : ℕ) → w < power m → from_bytes (bytes m w) ≡ w
number-bytes zero w h = omega arith
number-bytes (suc m) w h =
    let k : w / 256 < power m = omega (arith, div-add-mod' w 256, mod-lt w some) in
    omega (arith, number-bytes m (w / 256) k, div-add-mod' w 256)

-- eight bytes of a word
pub word_back : (w : ℕ) → w < 18446744073709551616 → from_bytes (bytes 8 w) ≡ w
word_back w h = number-bytes 8 w h

low : (b y : ℕ) → b < 256 → (b + 256 * y) % 256 ≡ b
low b y h = omega arith

rest : (b y : ℕ) → b < 256 → (b + 256 * y) / 256 ≡ y
rest b y h = omega arith

pub bytes-number : (l : List ℕ) → Bytes l → bytes (length l) (from_bytes l) ≡ l
bytes-number [] h = refl
bytes-number (b ∷ l) h =
    ap₂ {C = List ℕ} (λ x r. x ∷ r) (low b (from_bytes l) h.0) (ap (bytes (length l)) (rest b (from_bytes l) h.0) ∙ bytes-number l h.1)

number-under : (m : ℕ) (l : List ℕ) → Bytes l → length l ≤ m → from_bytes l < power m
number-under zero [] h k = omega arith
number-under zero (b ∷ l) h k = absurd (omega arith)
number-under (suc m) [] h k = omega (arith, number-under m [] tt (omega arith))
number-under (suc m) (b ∷ l) h k = omega (arith, number-under m l h.1 (omega arith), h.0)

pub is_word : (l : List ℕ) → Bytes l → length l ≡ 8 → from_bytes l < 18446744073709551616
is_word l h e = number-under 8 l h (omega arith)

-- four words and their points
pub words-points : (l : List ℕ) → length l ≡ 4 → All (λ w. w < 18446744073709551616) l → tabulate 4 (λ q. from_bytes (piece 8 q (joined (bytes 8) l))) ≡ l
unfolding piece
words-points (a ∷ b ∷ c ∷ d ∷ []) e h =
    ap₂ {C = List ℕ} (λ x r. x ∷ r) (word_back a h.0)
    (ap₂ {C = List ℕ} (λ x r. x ∷ r) (word_back b h.1.0)
    (ap₂ {C = List ℕ} (λ x r. x ∷ r) (word_back c h.1.1.0) (ap {B = List ℕ} (λ x. x ∷ []) (word_back d h.1.1.1.0))))
words-points [] e h = absurd (omega arith)
words-points (a ∷ []) e h = absurd (omega arith)
words-points (a ∷ b ∷ []) e h = absurd (omega arith)
words-points (a ∷ b ∷ c ∷ []) e h = absurd (omega arith)
words-points (a ∷ b ∷ c ∷ d ∷ f ∷ l) e h = absurd (omega arith)

pub length-points : (l : List ℕ) → length l ≡ 4 → length (joined (bytes 8) l) ≡ 32
length-points l e = omega (arith, length-joined 8 (bytes 8) (length-bytes 8) l)

all-bytes : (l : List ℕ) → All (λ x. Bytes (bytes 8 x)) l
all-bytes [] = tt
all-bytes (x ∷ l) = (are-bytes 8 x, all-bytes l)

pub points-bytes : (l : List ℕ) → Bytes (joined (bytes 8) l)
points-bytes l = joined_bytes (bytes 8) l (all-bytes l)

-- 32 points and their words
module _ (xs : List ℕ) (h : Bytes xs) (e : length xs ≡ 32) where
  long : (q : ℕ) → q < 4 → length (piece 8 q xs) ≡ 8
  long q k = length-piece 8 q xs (omega (arith, part_end q 8 4 k))

  pub points-words : joined (bytes 8) (tabulate 4 (λ q. from_bytes (piece 8 q xs))) ≡ xs
  points-words =
      join-ext 4 (λ q. bytes 8 (from_bytes (piece 8 q xs))) (λ q. piece 8 q xs)
      (λ q k. ap (λ (m : ℕ). bytes m (from_bytes (piece 8 q xs))) (sym (long q k)) ∙ bytes-number (piece 8 q xs) (piece_bytes 8 q xs h))
      ∙ join-piece 4 8 xs
      ∙ take_all 32 xs (omega arith)

  pub point-words : All (λ w. w < 18446744073709551616) (tabulate 4 (λ q. from_bytes (piece 8 q xs)))
  point-words = (at 0 (omega arith), (at 1 (omega arith), (at 2 (omega arith), (at 3 (omega arith), tt))))
    where
      at : (q : ℕ) → q < 4 → from_bytes (piece 8 q xs) < 18446744073709551616
      at q k = is_word (piece 8 q xs) (piece_bytes 8 q xs h) (long q k)
