-- Figures of the words: records spelled out in the header's order (n, k, d, r, capacity, written, length, marks, points); of `last` no two words are
-- alike.
-- proofs/Figures.antt has `word-figures : WordFigures`.
-- Assumes nothing.
use Rattle.std.specs.Prelude.{◌≡◌, true, false, List, [], ◌∷◌, ◌++◌, map, ℕ, ◌+◌, take, set, replicate}
use Rattle.lists.specs.Lists.{tabulate}
use Rattle.store_spec.specs.Record.{Record}
use Rattle.record_words.specs.Words.{is_record, record_from, words_of}

-- n = 7, k = 2, d = 4, r = 3, points 11 to 17 in hexadecimal, C = 5, a file of 6 bytes, boards 0 and 3 in service
abbrev told : Record
told =
    record {
      sizes = record { n = 7; k = 2; d = 4; r = 3 };
      points = 0x11 ∷ 0x12 ∷ 0x13 ∷ 0x14 ∷ 0x15 ∷ 0x16 ∷ 0x17 ∷ replicate 25 0;
      capacity = 5;
      written = true;
      length = 6;
      marks = true ∷ false ∷ false ∷ true ∷ replicate 28 false;
    }

abbrev spelled : List ℕ
spelled = 7 ∷ 2 ∷ 4 ∷ 3 ∷ 5 ∷ 1 ∷ 6 ∷ 9 ∷ 0x0017161514131211 ∷ 0 ∷ 0 ∷ 0 ∷ []

-- all words, points 40 to 5F in hexadecimal, and only board 31 in service
abbrev last : Record
last =
    record {
      sizes = record { n = 32; k = 11; d = 20; r = 12 };
      points = tabulate 32 (λ i. 0x40 + i);
      capacity = 4096;
      written = false;
      length = 131072;
      marks = replicate 31 false ++ (true ∷ []);
    }

abbrev last_spelled : List ℕ
last_spelled =
    32 ∷ 11 ∷ 20 ∷ 12 ∷ 4096 ∷ 0 ∷ 131072 ∷ 2147483648 ∷ 0x4746454443424140 ∷ 0x4F4E4D4C4B4A4948 ∷ 0x5756555453525150 ∷ 0x5F5E5D5C5B5A5958 ∷ []

pub record WordFigures : Type 0 where
  pub words_are : words_of told ≡ spelled
  pub record_is : record_from spelled ≡ told
  pub last-words : words_of last ≡ last_spelled
  pub last-record : record_from last_spelled ≡ last
  -- twelve words; eleven, thirteen, the eight of a record without points, written 2, marks from 2^32 up, and points from 2^64 up are none
  pub are-records :
      map is_record
      (spelled
      ∷ take 11 spelled
      ∷ (spelled ++ (0 ∷ []))
      ∷ take 8 spelled
      ∷ set spelled 5 2
      ∷ set spelled 7 4294967296
      ∷ set spelled 7 4294967295
      ∷ set spelled 8 18446744073709551616
      ∷ set spelled 11 18446744073709551616
      ∷ set spelled 11 18446744073709551615
      ∷ [])
      ≡ true ∷ false ∷ false ∷ false ∷ false ∷ false ∷ true ∷ false ∷ false ∷ true ∷ []
