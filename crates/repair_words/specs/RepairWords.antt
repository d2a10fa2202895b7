-- Request A.8, the repair's record in 71 words: whether one runs, its count and the packets carried, then the arrays of 32, 256 and 256 boards, eight bytes in a word,
-- the lowest first.
-- Assumes nothing.
use Rattle.std.specs.Prelude.{Bool, List, [], ◌∷◌, ◌++◌, ℕ, ltb, eqb, length, get_or, take, drop}
use Rattle.lists.specs.Tests.{pick, every, alls}
use Rattle.lists.specs.Lists.{tabulate, joined, piece}
use Rattle.beside_spec.specs.Running.{Running}
use Rattle.record_words.specs.Words.{bytes, from_bytes, word}

-- m words of eight bytes each
abbrev pub pack : ℕ → List ℕ → List ℕ
pack m l = tabulate m (λ q. from_bytes (piece 8 q l))

-- 71 words, of which the first is 0 or 1, and those of the arrays are words
unfoldable pub is_repair : List ℕ → Bool
is_repair ps = alls (eqb (length ps) 71 ∷ ltb (get_or ps 0 0) 2 ∷ every word (drop 3 ps) ∷ [])

-- the record that they tell
abbrev pub repair_from : List ℕ → Running
repair_from ps =
    record {
      running = eqb (get_or ps 0 0) 1;
      count = get_or ps 1 0;
      carried = get_or ps 2 0;
      fresh = joined (bytes 8) (take 4 (drop 3 ps));
      helpers = joined (bytes 8) (take 32 (drop 7 ps));
      stand_ins = joined (bytes 8) (drop 39 ps);
    }

-- the words that tell it
abbrev pub repair_words_of : Running → List ℕ
repair_words_of p = pick p.running 1 0 ∷ p.count ∷ p.carried ∷ (pack 4 p.fresh ++ (pack 32 p.helpers ++ pack 32 p.stand_ins))
