-- Words and records tell each other. proofs/Laws.antt has `word_laws : WordLaws`.
-- Assumes nothing.
use Rattle.std.specs.Prelude.{◌≡◌, Bool, true, false, ◌↔◌, List, [], ◌∷◌, ℕ, ◌+◌, ◌*◌, ◌/◌, ◌%◌, ◌^◌, ◌<◌, eqb, length, get_or, take, drop}
use Rattle.lists.specs.Tests.{pick}
use Rattle.lists.specs.Lists.{All, Bytes}
use Rattle.sizes.specs.Sizing.{max_boards}
use Rattle.store_spec.specs.Record.{Record}
use Rattle.record_words.specs.Words.{bits, from_bits, bytes, from_bytes, is_record, record_from, words_of}

-- a record with a mark and a point, which is a byte, for each of 32 boards
pub record Whole (s : Record) : Type 0 where
  pub marks : length s.marks ≡ max_boards
  pub points : length s.points ≡ max_boards
  pub points-bytes : Bytes s.points

pub record WordLaws : Type 0 where
  -- words that are a record's come back from the record that they tell, which has 32 marks and points
  pub words_back : (ws : List ℕ) → is_record ws ≡ true → words_of (record_from ws) ≡ ws
  pub is_whole : (ws : List ℕ) → is_record ws ≡ true → Whole (record_from ws)
  -- such a record comes back from its words, which are a record's
  pub are_words : (s : Record) → Whole s → is_record (words_of s) ≡ true
  pub record-back : (s : Record) → Whole s → record_from (words_of s) ≡ s
  -- twelve words, of which written is 0 or 1, marks is below 2^32, and those of the points are below 2^64
  pub is-record-is : (ws : List ℕ)
      → (is_record ws ≡ true) ↔ ((length ws ≡ 12) × (get_or ws 5 0 < 2) × (get_or ws 7 0 < 4294967296) × All (λ w. w < 18446744073709551616) (drop 8 ws))
  -- the words in their places: twelve of them, seven of one number each
  pub words-length : (s : Record) → length (words_of s) ≡ 12
  pub first-words : (s : Record)
      → take 7 (words_of s) ≡ s.sizes.n ∷ s.sizes.k ∷ s.sizes.d ∷ s.sizes.r ∷ s.capacity ∷ pick s.written 1 0 ∷ s.length ∷ []
  -- bit i of word 7 is the mark of board i, and 0 past the last mark
  pub marks-at : (s : Record) (i : ℕ) → get_or (words_of s) 7 0 / 2 ^ i % 2 ≡ pick (get_or s.marks i false) 1 0
  -- byte j of word 8 + q is the point of board 8q + j
  pub points-at : (s : Record) → Bytes s.points → (q j : ℕ) → q < 4 → j < 8 → get_or (words_of s) (8 + q) 0 / 256 ^ j % 256 ≡ get_or s.points (8 * q + j) 0
  -- bits and bytes of a number, the lowest first, and the number that has them
  pub bits-length : (m w : ℕ) → length (bits m w) ≡ m
  pub bits_at : (m w i : ℕ) → i < m → get_or (bits m w) i false ≡ eqb (w / 2 ^ i % 2) 1
  pub from-bits-at : (l : List Bool) (i : ℕ) → from_bits l / 2 ^ i % 2 ≡ pick (get_or l i false) 1 0
  pub bytes-length : (m w : ℕ) → length (bytes m w) ≡ m
  pub bytes-at : (m w j : ℕ) → j < m → get_or (bytes m w) j 0 ≡ w / 256 ^ j % 256
  pub from-bytes-at : (l : List ℕ) → Bytes l → (j : ℕ) → from_bytes l / 256 ^ j % 256 ≡ get_or l j 0
