-- Figures of the words: a running record spelled out in the header's order, of which no two words are alike, and words that are none.
-- proofs/Figures.antt has `repair-word-figures : RepairWordFigures`.
-- Assumes nothing.
use Rattle.std.specs.Prelude.{◌≡◌, true, false, List, [], ◌∷◌, ◌++◌, map, ℕ, ◌+◌, ◌*◌, take, set, replicate}
use Rattle.lists.specs.Lists.{tabulate}
use Rattle.beside_spec.specs.Running.{Running}
use Rattle.repair_words.specs.RepairWords.{is_repair, repair_from, repair_words_of}

-- two fresh boards, five packets carried, and in the arrays: fresh boards 06 and 09, then 00; entry i of the helpers is i, of the stand-ins 255 less i
abbrev told : Running
told =
    record {
      running = true;
      count = 2;
      carried = 5;
      fresh = 0x06 ∷ 0x09 ∷ replicate 30 0;
      helpers = tabulate 256 (λ i. i);
      stand_ins = 0xAB ∷ 0xCD ∷ replicate 253 0 ++ (0xEF ∷ []);
    }

-- helpers' word q has the bytes 8q to 8q + 7, the lowest first
abbrev spelled : List ℕ
spelled =
    1 ∷ 2 ∷ 5
    ∷ 0x0906 ∷ 0 ∷ 0 ∷ 0
    ∷ tabulate 32 (λ q. 0x0706050403020100 + q * 0x0808080808080808)
    ++ (0xCDAB ∷ replicate 30 0 ++ (0xEF00000000000000 ∷ []))

pub record RepairWordFigures : Type 0 where
  pub words_are : repair_words_of told ≡ spelled
  pub record_is : repair_from spelled ≡ told
  -- 71 words; 70, 72, twelve, a first word of 2, and a word of the arrays from 2^64 up are none; a count and packets carried of any size are
  pub are-repairs :
      map is_repair
      (spelled
      ∷ take 70 spelled
      ∷ (spelled ++ (0 ∷ []))
      ∷ take 12 spelled
      ∷ set spelled 0 0
      ∷ set spelled 0 2
      ∷ set spelled 3 18446744073709551616
      ∷ set spelled 70 18446744073709551616
      ∷ set (set spelled 1 18446744073709551615) 2 18446744073709551615
      ∷ [])
      ≡ true ∷ false ∷ false ∷ false ∷ true ∷ false ∷ false ∷ false ∷ true ∷ []
