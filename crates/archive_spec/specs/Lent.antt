-- The archive's calls of the store: what each answers, and words, area, output and packet area after it. The store's record stands in twelve words, that of a
-- repair beside it (request A.8) in 71.
-- Assumes nothing.
use Rattle.std.specs.Prelude.{Bool, List, [], ◌∷◌, ℕ, eqb, length, Err}
use Rattle.lists.specs.Tests.{pick, alls}
use Rattle.sizes.specs.declared.Sizes.{Sizes}
use Rattle.sizes.specs.declared.Refusal.TheVariants.{Size}
use Rattle.sizes.specs.Refusals.{said}
use Rattle.store_spec.specs.Record.{Record, new_record}
use Rattle.beside_spec.specs.Running.{Running, idle}
use Rattle.beside_spec.specs.Both.{Outcome, set_up_both}
use Rattle.beside_spec.specs.Acting.{Call, act, output_of, packets_of_call}
use Rattle.answer_word.specs.Answers.{word_of}
use Rattle.record_words.specs.Words.{is_record, record_from, words_of}
use Rattle.repair_words.specs.RepairWords.{is_repair, repair_from, repair_words_of}

pub record Lent : Type 0 where
  pub answer : ℕ
  pub words : List ℕ
  pub repair : List ℕ
  pub area : List ℕ
  pub output : List ℕ
  pub packets : List ℕ

-- "Words that are no record .. are SIZE", and nothing changes
abbrev pub no_record : List ℕ → List ℕ → List ℕ → List ℕ → List ℕ → Lent
no_record ws ps area output packets =
    record { answer = word_of (said (Err Size)); words = ws; repair = ps; area = area; output = output; packets = packets }

-- what the store's call gives, with both records in words
abbrev pub in_words : Outcome → Lent
in_words o =
    record { answer = word_of o.answer; words = words_of o.handed; repair = repair_words_of o.running; area = o.area; output = o.output; packets = o.packets }

-- words that tell both records
abbrev pub are_records : List ℕ → List ℕ → Bool
are_records ws ps = alls (is_record ws ∷ is_repair ps ∷ [])

-- a call of the store on the records that the words tell
abbrev pub lent_by : (Record → Running → Outcome) → List ℕ → List ℕ → List ℕ → List ℕ → List ℕ → Lent
lent_by call ws ps area output packets = pick (are_records ws ps) (in_words (call (record_from ws) (repair_from ps))) (no_record ws ps area output packets)

-- "set up takes any twelve words" and any 71: they are not examined, and stay where it refuses
unfoldable pub zbk_set_up : List ℕ → List ℕ → Sizes → List ℕ → ℕ → Lent
zbk_set_up ws ps z xs c =
    let o = set_up_both (new_record z xs c) idle z xs c in
    let accepts = eqb (word_of o.answer) 0 in
    pick (alls (eqb (length ws) 12 ∷ eqb (length ps) 71 ∷ []))
    (record {
      answer = word_of o.answer;
      words = pick accepts (words_of o.handed) ws;
      repair = pick accepts (repair_words_of o.running) ps;
      area = [];
      output = [];
      packets = [];
    })
    (no_record ws ps [] [] [])

-- a call of the store on these words and this area; losing is lent no area, so that it stays whatever it is; a step alone is lent a packet area
abbrev pub zbk : List ℕ → List ℕ → List ℕ → Call → Lent
zbk ws ps area c = lent_by (λ s p. act (record { kept = s; running = p; area = area; packets = [] }) c) ws ps area (output_of c) (packets_of_call c)
