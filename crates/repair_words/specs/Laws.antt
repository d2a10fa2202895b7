-- Words and the record of a repair tell each other. proofs/RepairWords.antt has `repair-words : RepairWordLaws`.
-- Assumes nothing.
use Rattle.std.specs.Prelude.{◌≡◌, true, ◌↔◌, List, [], ◌∷◌, ℕ, ◌+◌, ◌*◌, ◌/◌, ◌%◌, ◌^◌, ◌<◌, eqb, length, get_or, take, drop, replicate}
use Rattle.lists.specs.Tests.{pick}
use Rattle.lists.specs.Lists.{All, Bytes}
use Rattle.beside_spec.specs.Running.{Running, idle}
use Rattle.beside_spec.specs.HandedLaws.{Arrays}
use Rattle.repair_words.specs.RepairWords.{is_repair, repair_from, repair_words_of}

pub record RepairWordLaws : Type 0 where
  -- words that are a record's come back from the record that they tell, which has its three arrays; and such a record comes back from its words
  pub words_back : (ps : List ℕ) → is_repair ps ≡ true → repair_words_of (repair_from ps) ≡ ps
  pub is-arrays : (ps : List ℕ) → is_repair ps ≡ true → Arrays (repair_from ps)
  pub are_words : (p : Running) → Arrays p → is_repair (repair_words_of p) ≡ true
  pub repair-back : (p : Running) → Arrays p → repair_from (repair_words_of p) ≡ p
  -- 71 words, of which the first is 0 or 1, and those of the arrays are below 2^64
  pub is-repair-is : (ps : List ℕ) → (is_repair ps ≡ true) ↔ ((length ps ≡ 71) × (get_or ps 0 0 < 2) × All (λ w. w < 18446744073709551616) (drop 3 ps))
  -- the words in their places: whether it runs, the count and the packets carried
  pub words-length : (p : Running) → length (repair_words_of p) ≡ 71
  pub first-words : (p : Running) → take 3 (repair_words_of p) ≡ pick p.running 1 0 ∷ p.count ∷ p.carried ∷ []
  -- byte j of word 3 + q is entry 8q + j of the fresh boards, of word 7 + q of the helpers, of word 39 + q of the stand-ins
  pub fresh_at : (p : Running) → Bytes p.fresh → (q j : ℕ) → q < 4 → j < 8 → get_or (repair_words_of p) (3 + q) 0 / 256 ^ j % 256 ≡ get_or p.fresh (8 * q + j) 0
  pub helpers-at : (p : Running) → Bytes p.helpers → (q j : ℕ) → q < 32 → j < 8 → get_or (repair_words_of p) (7 + q) 0 / 256 ^ j % 256 ≡ get_or p.helpers (8 * q + j) 0
  pub stand-ins-at : (p : Running) → Bytes p.stand_ins → (q j : ℕ) → q < 32 → j < 8
      → get_or (repair_words_of p) (39 + q) 0 / 256 ^ j % 256 ≡ get_or p.stand_ins (8 * q + j) 0
  -- the words of no repair are all 0
  pub idle-words : repair_words_of idle ≡ replicate 71 0
  -- and words whose first is 0 tell a record that does not run
  pub first-tells : (ps : List ℕ) → (repair_from ps).running ≡ eqb (get_or ps 0 0) 1
