-- From a store's call to the archive's: both records in words.
-- Assumes nothing.
use Prim.Native.Nat.{ℕ}
use mathlib.Core.Path.{◌≡◌, refl, sym, ap, ap₂, subst, ◌∙◌}
use mathlib.Core.Bool.{Bool, true, false, not}
use mathlib.Core.Logic.{inl, inr}
use mathlib.Core.List.{List, [], ◌∷◌}
use native.Mathlib.Omega.{arith}
use lib.Dec.{eqb}
use lib.ListN.{length}
use borrow.Author.Tests.{eq-eqb, ne_eqb, not-true, not-false}
use Rattle.lists.specs.Tests.{alls}
use Rattle.lists.proofs.Tests.{alls-hold}
use Rattle.sizes.specs.declared.Sizes.{Sizes}
use Rattle.std.specs.Prelude.{Ok, Err}
use Rattle.sizes.specs.Refusals.{said, first, store_order, Check}
use Rattle.sizes.proofs.Laws.{number-low}
use Rattle.store_spec.specs.Record.{Record, new_record}
use Rattle.beside_spec.specs.Running.{idle}
use Rattle.beside_spec.specs.Running as beside-record
use Rattle.store_spec.specs.Calls.{settle, accepted, record_line}
use Rattle.beside_spec.specs.Both.{Outcome, beside, set_up_both}
use Rattle.beside_spec.specs.Acting.{Call, State, act, output_of, packets_of_call}
use Rattle.record.specs.declared.Running.{Running}
use Rattle.record.specs.Records.{running_in}
use Rattle.store.specs.declared.Store.{Store}
use Rattle.store.specs.declared.Handed.{Handed}
use Rattle.store.specs.Handing.{record_in, outcome_both}
use Rattle.point_array.specs.Steps.{array_of}
use Rattle.answer_word.specs.Answers.{word_of}
use Rattle.record_words.specs.Words.{is_record, record_from, words_of}
use Rattle.record_words.proofs.Bits.{words-facts}
use Rattle.repair_words.specs.RepairWords.{is_repair, repair_from, repair_words_of}
use Rattle.repair_words.proofs.RepairWords.{repair-words}
use Rattle.archive_spec.specs.Lent.{Lent, no_record, in_words, are_records, lent_by, zbk_set_up, zbk}
use Rattle.archive_spec.proofs.Bounds.{Fits}
use Rattle.archive_spec.proofs.StoreFits.{store-fits, set-up-fits}
use Rattle.archive_spec.proofs.Given.{set-up-given}
use Rattle.archive_spec.proofs.InWords.{both_yes, both-no, by, lent, set-up-lent}

-- ---- a call over the records that the words tell

pub record Both (ws ps : List ℕ) : Type 0 where
  pub is-record : is_record ws ≡ true
  pub is-repair : is_repair ps ≡ true

module _ (ws ps : List ℕ) where
  pub are-both : (b : Bool) → b ≡ are_records ws ps → not b ≡ false → Both ws ps
  are-both b e h = let k = alls-hold (is_record ws ∷ is_repair ps ∷ []) (sym e ∙ not-false b h) in record { is-record = k.0; is-repair = k.1.0 }

  -- what `hand_on` asks
  pub handed-asks : (w : State) (c : Call) (h : Handed) (area output packets : List ℕ) → Both ws ps → outcome_both h area output packets ≡ act w c
      → (length ws ≡ 12) × (length ps ≡ 71) × Fits (said h.answer).reported
  handed-asks w c h area output packets is e = (
    (words-facts ws is.is-record).twelve,
    ((repair-words.is-repair-is ps).0 is.is-repair).0,
    subst Fits (ap (λ (o : Outcome). o.answer.reported) (sym e)) (store-fits w c),
  )

module _ (call : Record → beside-record.Running → Outcome) (ws ps area output packets : List ℕ) where
  -- of words that do not tell both records
  pub none-lent : (b : Bool) → b ≡ are_records ws ps → not b ≡ true → no_record ws ps area output packets ≡ lent_by call ws ps area output packets
  none-lent b e h = ap (by call ws ps area output packets) (sym (not-true b h) ∙ e)

  -- the records are taken from the words; records and answer that the call hands on are put into them
  pub lent-on : (s : Store) (p : Running) (h : Handed) (after written left next then : List ℕ) (w : ℕ)
      → Both ws ps
      → record_in s ≡ record_from ws
      → running_in p ≡ repair_from ps
      → outcome_both h after written left ≡ call (record_in s) (running_in p)
      → (w ≡ word_of (said h.answer)) × (next ≡ words_of (record_in h.store)) × (then ≡ repair_words_of (running_in h.running))
      → record { answer = w; words = next; repair = then; area = after; output = written; packets = left } ≡ lent_by call ws ps area output packets
  lent-on s p h after written left next then w is es ep e k =
      ap (λ (a : ℕ). record { answer = a; words = next; repair = then; area = after; output = written; packets = left }) k.0
      ∙ ap₂ {C = Lent} (λ (x y : List ℕ). record { answer = word_of (said h.answer); words = x; repair = y; area = after; output = written; packets = left }) k.1 k.2
      ∙ ap in_words (e ∙ ap₂ {C = Outcome} call es ep)
      ∙ lent call ws ps area output packets is.is-record is.is-repair

-- of a call of the store on these words and this area: what `are_records`, the store's method and `hand_on` promised, and what is asked for it
pub record LentCall (ws ps area : List ℕ) (c : Call) : Type 0 where
  -- the words tell both records, or they do not
  pub both : (b : Bool) → b ≡ are_records ws ps → not b ≡ false → Both ws ps
  pub is_none : (b : Bool) → b ≡ are_records ws ps → not b ≡ true → no_record ws ps area (output_of c) (packets_of_call c) ≡ zbk ws ps area c
  -- what `hand_on` asks
  pub asks : (s : Record) (p : beside-record.Running) (h : Handed) (after written left : List ℕ) → Both ws ps
      → outcome_both h after written left ≡ act (record { kept = s; running = p; area = area; packets = [] }) c
      → (length ws ≡ 12) × (length ps ≡ 71) × Fits (said h.answer).reported
  -- the records are taken from the words; records and answer that the call hands on are put into them
  pub hands_on : (s : Store) (p : Running) (h : Handed) (after written left next then : List ℕ) (w : ℕ) → Both ws ps
      → record_in s ≡ record_from ws
      → running_in p ≡ repair_from ps
      → outcome_both h after written left ≡ act (record { kept = record_in s; running = running_in p; area = area; packets = [] }) c
      → (w ≡ word_of (said h.answer)) × (next ≡ words_of (record_in h.store)) × (then ≡ repair_words_of (running_in h.running))
      → record { answer = w; words = next; repair = then; area = after; output = written; packets = left } ≡ zbk ws ps area c

pub lent-call : (ws ps area : List ℕ) (c : Call) → LentCall ws ps area c
lent-call ws ps area c = record {
  both = are-both ws ps;
  is_none = none-lent call ws ps area (output_of c) (packets_of_call c);
  asks = λ s p h after written left is e. handed-asks ws ps (record { kept = s; running = p; area = area; packets = [] }) c h after written left is e;
  hands_on = lent-on call ws ps area (output_of c) (packets_of_call c);
}
  where
    call : Record → beside-record.Running → Outcome
    call s p = act (record { kept = s; running = p; area = area; packets = [] }) c

-- ---- set up

module _ (s s' : Record) (p p' : beside-record.Running) (z : Sizes) (xs : List ℕ) (c : ℕ) where
  abbrev by-check : Check → Record → beside-record.Running → Outcome
  by-check t old q =
      settle t (λ x. record { answer = said (Err x); handed = old; running = q; area = []; output = []; packets = [] })
      (beside idle (accepted 0 (new_record z xs c) [] []))

  -- what it answers does not hang on the records that it is handed
  same_answer : (set_up_both s p z xs c).answer ≡ (set_up_both s' p' z xs c).answer
  unfolding set_up_both
  same_answer = go (first store_order (record_line (new_record z xs c) ∷ []))
    where
      go : (t : Check) → (by-check t s p).answer ≡ (by-check t s' p').answer
      go (Ok tt) = refl
      go (Err x) = refl

  -- where it is accepted, nor does what it hands on
  same-made : word_of (set_up_both s p z xs c).answer ≡ 0 → set_up_both s p z xs c ≡ set_up_both s' p' z xs c
  unfolding set_up_both
  same-made h = go (first store_order (record_line (new_record z xs c) ∷ [])) h
    where
      go : (t : Check) → word_of (by-check t s p).answer ≡ 0 → by-check t s p ≡ by-check t s' p'
      go (Ok tt) h = refl
      go (Err x) h = absurd (omega (arith, number-low x, h))

-- a set-up at the array of the points is the set-up at the points
pub due : (s : Record) (p : beside-record.Running) (z : Sizes) (xs points : List ℕ) (c : ℕ) (o : Outcome)
    → o ≡ set_up_both s p z xs c → xs ≡ array_of points → o ≡ set_up_both s p z points c
due s p z xs points c o e ex = e ∙ ap (λ (ys : List ℕ). set_up_both s p z ys c) ex ∙ set-up-given s p z points c

-- what `word_of` asks
pub set-up-asks : (h : Handed) (s : Record) (p : beside-record.Running) (z : Sizes) (xs : List ℕ) (c : ℕ) → outcome_both h [] [] [] ≡ set_up_both s p z xs c → Fits (said h.answer).reported
set-up-asks h s p z xs c e = subst Fits (ap (λ (o : Outcome). o.answer.reported) (sym e)) (set-up-fits s p z xs c)

module _ (ws ps : List ℕ) (z : Sizes) (xs : List ℕ) (c : ℕ) where
  abbrev made : Outcome
  made = set_up_both (new_record z xs c) idle z xs c

  abbrev long : Bool
  long = alls (eqb (length ws) 12 ∷ eqb (length ps) 71 ∷ [])

  -- by whether there are twelve words and 71, and by its word
  as-set-up : (t accepts : Bool) → long ≡ t → eqb (word_of made.answer) 0 ≡ accepts → set-up-lent ws ps made t accepts ≡ zbk_set_up ws ps z xs c
  unfolding zbk_set_up
  as-set-up t accepts e q = ap₂ {C = Lent} (set-up-lent ws ps (set_up_both (new_record z xs c) idle z xs c)) (sym e) (sym q)

  pub not-twelve : (length ws ≡ 12 → ⊥) → no_record ws ps [] [] [] ≡ zbk_set_up ws ps z xs c
  not-twelve h = as-set-up false (eqb (word_of made.answer) 0) (both-no (eqb (length ws) 12) (eqb (length ps) 71) (inl (ne_eqb (length ws) 12 h))) refl

  pub not-71 : (length ps ≡ 71 → ⊥) → no_record ws ps [] [] [] ≡ zbk_set_up ws ps z xs c
  not-71 h = as-set-up false (eqb (word_of made.answer) 0) (both-no (eqb (length ws) 12) (eqb (length ps) 71) (inr (ne_eqb (length ps) 71 h))) refl

  module _ (s : Record) (p : beside-record.Running) (h : Handed) (w : ℕ) (twelve : length ws ≡ 12) (all : length ps ≡ 71) (e : outcome_both h [] [] [] ≡ set_up_both s p z xs c)
      (ew : w ≡ word_of (said h.answer)) where
    both_long : long ≡ true
    both_long = both_yes (eqb (length ws) 12) (eqb (length ps) 71) (eq-eqb (length ws) 12 twelve) (eq-eqb (length ps) 71 all)

    word-is : w ≡ word_of made.answer
    word-is = ew ∙ ap (λ (o : Outcome). word_of o.answer) e ∙ ap word_of (same_answer s (new_record z xs c) p idle z xs c)

    pub did-set-up : (next then : List ℕ) → w ≡ 0 → next ≡ words_of (record_in h.store) → then ≡ repair_words_of (running_in h.running)
        → record { answer = w; words = next; repair = then; area = []; output = []; packets = [] } ≡ zbk_set_up ws ps z xs c
    did-set-up next then h0 en et =
        let z0 = sym (ap (λ (o : Outcome). word_of o.answer) e) ∙ sym ew ∙ h0 in
        let is : outcome_both h [] [] [] ≡ made = e ∙ same-made s (new_record z xs c) p idle z xs c z0 in
        ap (λ (a : ℕ). record { answer = a; words = next; repair = then; area = []; output = []; packets = [] }) word-is
        ∙ ap₂ {C = Lent} (λ (x y : List ℕ). record { answer = word_of made.answer; words = x; repair = y; area = []; output = []; packets = [] })
        (en ∙ ap (λ (o : Outcome). words_of o.handed) is) (et ∙ ap (λ (o : Outcome). repair_words_of o.running) is)
        ∙ as-set-up true true both_long (eq-eqb (word_of made.answer) 0 (sym word-is ∙ h0))

    pub not-set-up : (w ≡ 0 → ⊥) → record { answer = w; words = ws; repair = ps; area = []; output = []; packets = [] } ≡ zbk_set_up ws ps z xs c
    not-set-up h0 =
        ap (λ (a : ℕ). record { answer = a; words = ws; repair = ps; area = []; output = []; packets = [] }) word-is
        ∙ as-set-up true false both_long (ne_eqb (word_of made.answer) 0 (λ q. h0 (word-is ∙ q)))
