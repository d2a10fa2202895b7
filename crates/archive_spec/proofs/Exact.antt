-- The exactness of the reader and of the careful one, with answers and records in words: that of the definitions' calls.
-- Assumes nothing.
use Prim.Native.Nat.{ℕ, ◌+◌, ◌*◌, ◌≤◌, ◌<◌}
use mathlib.Core.Path.{◌≡◌, refl, sym, ap, ap₂, subst, ◌∙◌}
use mathlib.Core.Bool.{true, false, not}
use mathlib.Core.Logic.{◌↔◌, ◌⊎◌, inl, inr}
use mathlib.Core.List.{List, [], ◌∷◌}
use native.Mathlib.Omega.{arith}
use native.Mathlib.Nat.{mod-lt}
use lib.ListN.{length, drop}
use Rattle.lists.specs.Lists.{All, Bytes, over}
use Rattle.std.specs.Prelude.{Ok, Err}
use Rattle.sizes.specs.declared.Refusal.TheVariants.{Size, Disagree}
use Rattle.sizes.specs.Refusals.{number, Said, said, Line, ◌when◌, applies_in, first, store_order, Check}
use Rattle.mbcr.specs.Share.{share}
use Rattle.store_spec.specs.Record.{Record, sound, held}
use Rattle.beside_spec.specs.Running.{Running, sound_beside}
use Rattle.beside_spec.proofs.Beside.{both_facts}
use Rattle.store_spec.specs.Calls.{StoreOutcome, settle, refused, record_line, read_lines, read_done, read_call}
use Rattle.store_spec.specs.Careful.{agreeing, careful_lines, careful_done, careful_call}
use Rattle.store_spec.specs.CarefulLaws.{OddTold}
use Rattle.beside_spec.specs.Both.{beside, both_line, read_lines_both, read_both, careful_lines_both, careful_both}
use Rattle.beside_spec.specs.Acting.{Call, read, careful, act, output_of, packets_of_call}
use Rattle.beside_spec.proofs.AloneLaws.{alone-is, alone-laws}
use Rattle.store_spec.proofs.CarefulLaws.{careful-laws}
use Rattle.store_spec.proofs.Demand1.{demand-1}
use Rattle.store_spec.proofs.MarkLaws.{mark-laws}
use Rattle.answer_word.specs.Answers.{word_of}
use Rattle.answer_word.proofs.Laws.{answer-laws}
use Rattle.record_words.specs.Words.{is_record, record_from, words_of}
use Rattle.repair_words.specs.RepairWords.{is_repair, repair_from, repair_words_of}
use Rattle.archive_spec.specs.Lent.{Lent, in_words, zbk}
use Rattle.archive_spec.proofs.InWords.{lent, back-words}

-- ---- where no line but DISAGREE holds

-- SIZE is by neither record, and the lines are those of the call alone
module _ (s : Record) (p : Running) (rest : List Line)
    (others : All (λ x. (x ≡ Disagree) ⊎ (applies_in (both_line s p ∷ rest) x ≡ false)) store_order) where
  no_size : (both_line s p).applies ≡ false
  no_size = go others.0
    where
      go : (Size ≡ Disagree) ⊎ (applies_in (both_line s p ∷ rest) Size ≡ false) → (both_line s p).applies ≡ false
      go (inl e) = absurd (omega (arith, ap number e))
      go (inr e) = e

  both-sound : (sound s ≡ true) × (sound_beside s p ≡ true)
  both-sound = both_facts s p no_size

  others-alone : All (λ x. (x ≡ Disagree) ⊎ (applies_in (record_line s ∷ rest) x ≡ false)) store_order
  others-alone =
      subst (λ (l : Line). All (λ x. (x ≡ Disagree) ⊎ (applies_in (l ∷ rest) x ≡ false)) store_order)
      (ap (λ t. Size when t) (no_size ∙ sym (ap not both-sound.0))) others

-- ---- an outcome and its words

-- an outcome by its parts
outcome-is : (o : StoreOutcome) (a : Said) (s : Record) (area output : List ℕ) → o.answer ≡ a → o.handed ≡ s → o.area ≡ area → o.output ≡ output
    → o ≡ record { answer = a; handed = s; area = area; output = output }
outcome-is o a s area output p q r t =
    ap (λ (y : Said). record { answer = y; handed = o.handed; area = o.area; output = o.output }) p
    ∙ ap (λ (y : Record). record { answer = a; handed = y; area = o.area; output = o.output }) q
    ∙ ap (λ (y : List ℕ). record { answer = a; handed = s; area = y; output = o.output }) r
    ∙ ap (λ (y : List ℕ). record { answer = a; handed = s; area = area; output = y }) t

-- an answer by its word
said-is : (a : Said) (x v : ℕ) → a.refusal < 256 → x < 256 → a.refusal + 256 * a.reported ≡ x + 256 * v → a ≡ record { refusal = x; reported = v }
said-is a x v low small e = ap₂ {C = Said} (λ (y n : ℕ). record { refusal = y; reported = n }) refusal_is reported-is
  where
    refusal_is : a.refusal ≡ x
    refusal_is = omega (arith, low, small, e)

    reported-is : a.reported ≡ v
    reported-is = omega (arith, low, small, e)

number_small : (t : Check) (s : Record) (area output : List ℕ) (done : StoreOutcome) → done.answer.refusal ≡ 0
    → (settle t (refused s area output) done).answer.refusal < 256
number_small (Ok tt) s area output done z = omega (arith, z)
number_small (Err x) s area output done z =
    let e = answer-laws.refusal_is (Err x) in
    omega (arith, e, mod-lt (word_of (said (Err x))) {m = 256} (omega arith))

-- A call that leaves record and area: with the words of both records it gives these words and bytes just where alone it has this outcome.
module _ (ws ps area : List ℕ) (call : Call) (is-record : is_record ws ≡ true) (is-repair : is_repair ps ≡ true) (outcome : StoreOutcome)
    (alone : act (record { kept = record_from ws; running = repair_from ps; area = area; packets = [] }) call ≡ beside (repair_from ps) outcome)
    (same-record : outcome.handed ≡ record_from ws) (same_area : outcome.area ≡ area) (low : outcome.answer.refusal < 256) where
  abbrev gives : ℕ → List ℕ → Lent
  gives w out = record { answer = w; words = ws; repair = ps; area = area; output = out; packets = [] }

  abbrev given : ℕ → ℕ → List ℕ → StoreOutcome
  given x v out = record { answer = record { refusal = x; reported = v }; handed = record_from ws; area = area; output = out }

  in-words : zbk ws ps area call ≡ in_words (beside (repair_from ps) outcome)
  in-words =
      sym (lent (λ s p. act (record { kept = s; running = p; area = area; packets = [] }) call) ws ps area (output_of call) (packets_of_call call) is-record is-repair)
      ∙ ap in_words alone

  same-given : (w x v : ℕ) → w ≡ x + 256 * v → x < 256 → (out : List ℕ) → (zbk ws ps area call ≡ gives w out) ↔ (outcome ≡ given x v out)
  same-given w x v is small out = (there, back)
    where
      there : zbk ws ps area call ≡ gives w out → outcome ≡ given x v out
      there e =
          let given : in_words (beside (repair_from ps) outcome) ≡ gives w out = sym in-words ∙ e in
          outcome-is outcome (record { refusal = x; reported = v }) (record_from ws) area out
          (said-is outcome.answer x v low small (ap (λ (l : Lent). l.answer) given ∙ is)) same-record same_area
          (ap (λ (l : Lent). l.output) given)

      back : outcome ≡ given x v out → zbk ws ps area call ≡ gives w out
      back e =
          in-words ∙ ap (λ (o : StoreOutcome). in_words (beside (repair_from ps) o)) e
          ∙ ap (λ (n : ℕ). record { answer = n; words = words_of (record_from ws); repair = repair_words_of (repair_from ps); area = area; output = out; packets = [] }) (sym is)
          ∙ back-words ws ps is-record is-repair w area out []

-- one of two that say the same
both_ways : {A B C : Type 0} → A ↔ B → B ↔ C → A ↔ C
both_ways p q = ((λ a. q.0 (p.0 a)), (λ c. p.1 (q.1 c)))

-- ---- the two readers

module _ (ws ps area boards output : List ℕ) (is-record : is_record ws ≡ true) (is-repair : is_repair ps ≡ true) (bytes : Bytes area) where
  abbrev kept : Record
  kept = record_from ws

  abbrev running : Running
  running = repair_from ps

  pub read-exact : All (λ x. (x ≡ Disagree) ⊎ (applies_in (read_lines_both kept running area boards output) x ≡ false)) store_order
      → ((file : List ℕ) → length file ≡ kept.length → Bytes file
      → (zbk ws ps area (read boards output) ≡ record { answer = 0; words = ws; repair = ps; area = area; output = over file output; packets = [] })
      ↔ All (λ i. held kept area i ≡ share kept.sizes kept.points file i) boards)
      × ((zbk ws ps area (read boards output) ≡ record { answer = 10; words = ws; repair = ps; area = area; output = output; packets = [] })
      ↔ ((file : List ℕ) → length file ≡ kept.length → Bytes file → All (λ i. held kept area i ≡ share kept.sizes kept.points file i) boards → ⊥))
  unfolding act read_lines_both read_lines read_call
  read-exact others =
      let rest : List Line = drop 1 (read_lines kept area boards output) in
      let k = (both-sound kept running rest others).1 in
      let e = alone-is running (read_call kept area boards output) (read_both kept running area boards output) (alone-laws.read-alone kept running area boards output k) in
      let exactly = demand-1.read-exact kept area boards output bytes (others-alone kept running rest others) in
      let same = same-given ws ps area (read boards output) is-record is-repair (read_call kept area boards output) e (mark-laws.reads kept area boards output)
      (demand-1.read-reports kept area boards output).1 (number_small (first store_order (read_lines kept area boards output)) kept area output (read_done kept area boards output) refl) in (
        λ file long bf. both_ways (same 0 0 0 refl (omega arith) (over file output)) (exactly.0 file long bf),
        both_ways (same 10 10 0 refl (omega arith) output) exactly.1,
      )

  pub careful-exact : All (λ x. (x ≡ Disagree) ⊎ (applies_in (careful_lines_both kept running area boards output) x ≡ false)) store_order
      → ((file : List ℕ) → length file ≡ kept.length → Bytes file → (v : ℕ)
      → (zbk ws ps area (careful boards output) ≡ record { answer = 256 * v; words = ws; repair = ps; area = area; output = over file output; packets = [] })
      ↔ OddTold kept area file boards v)
      × ((zbk ws ps area (careful boards output) ≡ record { answer = 10; words = ws; repair = ps; area = area; output = output; packets = [] })
      ↔ ((file : List ℕ) → length file ≡ kept.length → Bytes file → kept.sizes.k + 1 ≤ length (agreeing kept area file boards) → ⊥))
  unfolding act careful_lines_both careful_lines careful_call
  careful-exact others =
      let rest : List Line = drop 1 (careful_lines kept area boards output) in
      let k = (both-sound kept running rest others).1 in
      let e = alone-is running (careful_call kept area boards output) (careful_both kept running area boards output) (alone-laws.careful-alone kept running area boards output k) in
      let exactly = careful-laws.careful-exact kept area boards output bytes (others-alone kept running rest others) in
      let same = same-given ws ps area (careful boards output) is-record is-repair (careful_call kept area boards output) e (mark-laws.careful-reads kept area boards output)
      (demand-1.careful-reports kept area boards output).1 (number_small (first store_order (careful_lines kept area boards output)) kept area output (careful_done kept area boards output) refl) in (
        λ file long bf v. let word : 256 * v ≡ 0 + 256 * v = omega arith in both_ways (same (256 * v) 0 v word (omega arith) (over file output)) (exactly.0 file long bf v),
        both_ways (same 10 10 0 refl (omega arith) output) exactly.1,
      )
