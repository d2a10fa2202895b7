-- Of a call over the records that the words tell: where they tell both, where they do not, and where they are the records' own.
-- Assumes nothing.
use Prim.Native.Nat.{ℕ, ◌*◌}
use mathlib.Core.Path.{◌≡◌, refl, sym, ap, ap₂, ◌∙◌}
use mathlib.Core.Bool.{Bool, true, false}
use mathlib.Core.Logic.{◌⊎◌, inl, inr}
use mathlib.Core.List.{List, [], ◌∷◌}
use native.Mathlib.Omega.{arith}
use Rattle.lists.specs.Tests.{pick, alls}
use Rattle.lists.proofs.Tests.{alls-hold, hold-alls}
use Rattle.store_spec.specs.Record.{Record}
use Rattle.beside_spec.specs.Running.{Running}
use Rattle.beside_spec.specs.Both.{Outcome}
use Rattle.beside_spec.specs.HandedLaws.{Arrays}
use Rattle.answer_word.specs.Answers.{word_of}
use Rattle.record_words.specs.Words.{is_record, record_from, words_of}
use Rattle.record_words.specs.Laws.{Whole}
use Rattle.record_words.proofs.Laws.{word_laws}
use Rattle.repair_words.specs.RepairWords.{is_repair, repair_from, repair_words_of}
use Rattle.repair_words.proofs.RepairWords.{repair-words}
use Rattle.archive_spec.specs.Lent.{Lent, no_record, in_words, are_records, lent_by}

-- ---- two tests

pub both_yes : (a b : Bool) → a ≡ true → b ≡ true → alls (a ∷ b ∷ []) ≡ true
both_yes a b p q = hold-alls (a ∷ b ∷ []) (p, (q, tt))

pub both-no : (a b : Bool) → (a ≡ false) ⊎ (b ≡ false) → alls (a ∷ b ∷ []) ≡ false
both-no a b (inl h) = ap (λ (t : Bool). alls (t ∷ b ∷ [])) h
both-no true b (inr h) = ap (λ (t : Bool). alls (true ∷ t ∷ [])) h
both-no false b (inr h) = refl

-- ---- calls

module _ (call : Record → Running → Outcome) (ws ps area output packets : List ℕ) where
  abbrev pub by : Bool → Lent
  by t = pick t (in_words (call (record_from ws) (repair_from ps))) (no_record ws ps area output packets)

  -- of words that are both records'
  pub lent : is_record ws ≡ true → is_repair ps ≡ true → in_words (call (record_from ws) (repair_from ps)) ≡ lent_by call ws ps area output packets
  lent h k = ap by (sym (both_yes (is_record ws) (is_repair ps) h k))

  -- and of words that are not
  pub not-lent : (is_record ws ≡ false) ⊎ (is_repair ps ≡ false) → lent_by call ws ps area output packets ≡ no_record ws ps area output packets
  not-lent h = ap by (both-no (is_record ws) (is_repair ps) h)

  -- an answer that is no refusal is not that of such words
  pub taken : (v : ℕ) → (lent_by call ws ps area output packets).answer ≡ 256 * v → (is_record ws ≡ true) × (is_repair ps ≡ true)
  taken v e = let h = alls-hold (is_record ws ∷ is_repair ps ∷ []) (go (are_records ws ps) refl e) in (h.0, h.1.0)
    where
      go : (t : Bool) → are_records ws ps ≡ t → (by t).answer ≡ 256 * v → are_records ws ps ≡ true
      go true q e = q
      go false q e = absurd (omega (arith, e))

-- words that are both records' come back from the records that they tell
pub back-words : (ws ps : List ℕ) → is_record ws ≡ true → is_repair ps ≡ true → (w : ℕ) (area output packets : List ℕ)
    → ◌≡◌ {A = Lent} (record { answer = w; words = words_of (record_from ws); repair = repair_words_of (repair_from ps); area = area; output = output; packets = packets })
    (record { answer = w; words = ws; repair = ps; area = area; output = output; packets = packets })
back-words ws ps h k w area output packets =
    ap₂ {C = Lent} (λ (x y : List ℕ). record { answer = w; words = x; repair = y; area = area; output = output; packets = packets })
    (word_laws.words_back ws h) (repair-words.words_back ps k)

-- and of the records' own words
pub lent_back : (call : Record → Running → Outcome) (s : Record) (p : Running) (area output packets : List ℕ) → Whole s → Arrays p
    → lent_by call (words_of s) (repair_words_of p) area output packets ≡ in_words (call s p)
lent_back call s p area output packets full arrays =
    sym (lent call (words_of s) (repair_words_of p) area output packets (word_laws.are_words s full) (repair-words.are_words p arrays))
    ∙ ap₂ (λ (t : Record) (q : Running). in_words (call t q)) (word_laws.record-back s full) (repair-words.repair-back p arrays)

-- a set-up over words that are twelve and 71, or not, and accepted, or not
abbrev pub set-up-lent : List ℕ → List ℕ → Outcome → Bool → Bool → Lent
set-up-lent ws ps o t accepts =
    pick t
    (record {
      answer = word_of o.answer;
      words = pick accepts (words_of o.handed) ws;
      repair = pick accepts (repair_words_of o.running) ps;
      area = [];
      output = [];
      packets = [];
    })
    (no_record ws ps [] [] [])
