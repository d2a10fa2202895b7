-- Demand 1 of the archive: that of the definitions, with answers and records in words.
-- Assumes nothing.
use Prim.Native.Nat.{ℕ, ◌+◌, ◌-◌, ◌*◌, ◌≤◌, ◌<◌, min}
use mathlib.Core.Path.{◌≡◌, refl, sym, ap, ◌∙◌}
use mathlib.Core.Bool.{Bool, true, false}
use mathlib.Core.Logic.{◌≢◌, ◌↔◌, ◌⊎◌, inl, inr, ⊎_elim}
use mathlib.Core.List.{List, [], ◌∷◌}
use native.Mathlib.Omega.{arith}
use native.Mathlib.Nat.{min-eq_left, min-eq_right}
use lib.Dec.{leb, eqb}
use lib.ListN.{length, replicate}
use borrow.Author.Tests.{eq-eqb, ne_eqb, leb-true, leb-false}
use Rattle.lists.specs.Tests.{pick, alls}
use Rattle.lists.specs.Lists.{over}
use Rattle.sizes.specs.declared.Sizes.{Sizes}
use Rattle.sizes.specs.declared.Refusal.{Refusal}
use Rattle.std.specs.Prelude.{Ok}
use Rattle.sizes.specs.Refusals.{number, said, Line}
use Rattle.sizes.proofs.Laws.{number-low}
use Rattle.board_spec.specs.Calls.{BoardOutcome}
use Rattle.board_spec.specs.Demand1.{BoardEnds}
use Rattle.board_spec.proofs.Demand1 as at-board
use Rattle.store_spec.specs.Record.{Record, new_record}
use Rattle.beside_spec.specs.Running.{Running, idle, fresh_of, packet_count}
use Rattle.store_spec.specs.Calls.{accepted, record_line}
use Rattle.beside_spec.specs.Both.{Outcome, beside, left_of, step_last, step_on, step_done, set_up_both}
use Rattle.beside_spec.specs.BothCalls.{store_lines, store_done}
use Rattle.beside_spec.specs.Acting.{Call, write, lose, repair, read, edit, start, step, careful, move, act, output_of, packets_of_call}
use Rattle.beside_spec.proofs.BothCalls.{both-calls}
use Rattle.text_spec.specs.Texts.{ShareTold, text_of, read_text}
use Rattle.text_spec.specs.Laws.{Writable}
use Rattle.text_spec.specs.Calls.{ReadOutcome, told_of, read_text_lines, read_text_call}
use Rattle.text_spec.proofs.Demand1 as at-text
use Rattle.prefix_spec.specs.Prefix.{longest}
use Rattle.prefix_spec.specs.Laws.{Longest}
use Rattle.prefix_spec.proofs.Longest.{prefix-laws}
use Rattle.answer_word.specs.Answers.{word_of}
use Rattle.record_words.specs.Words.{is_record, record_from, words_of}
use Rattle.repair_words.specs.RepairWords.{is_repair, repair_from, repair_words_of}
use Rattle.archive_spec.specs.Lent.{Lent, in_words, zbk_set_up, zbk}
use Rattle.archive_spec.specs.Texts.{TextLent, no_room, read_in_words, zbk_read_text}
use Rattle.archive_spec.specs.Demand1.{LentEnds, WordEnds, TextEnds, tells, Unchanged, Neither, ArchiveCalls}
use Rattle.archive_spec.proofs.Exact.{read-exact, careful-exact}
use Rattle.archive_spec.proofs.InWords.{both_yes, both-no, lent, not-lent, back-words, set-up-lent}

-- a refusal's word is its number
abbrev word_number : (x : Refusal) → number x + 256 * 0 ≡ number x
word_number x = omega arith

-- a reported number's word has it above eight bits 0
abbrev word-reported : (v : ℕ) → 0 + 256 * v ≡ 256 * v
word-reported v = omega arith

-- ---- the store

module _ (ws ps area : List ℕ) (call : Call) where
  abbrev calling : Record → Running → Outcome
  calling s p = act (record { kept = s; running = p; area = area; packets = [] }) call

  none : Neither ws ps → Unchanged (zbk ws ps area call) ws ps area (output_of call) (packets_of_call call)
  none h = not-lent calling ws ps area (output_of call) (packets_of_call call) h

  -- by the lines of the store's call, what it does, and the number that it then reports
  lent-ends : (reported : ℕ) → is_record ws ≡ true → is_repair ps ≡ true → (store_done (record_from ws) (repair_from ps) area call).answer ≡ said (Ok reported)
      → LentEnds (store_lines (record_from ws) (repair_from ps) area call) ws ps area (output_of call) (packets_of_call call) reported
      (store_done (record_from ws) (repair_from ps) area call) (zbk ws ps area call)
  lent-ends reported h k a =
      let ends = both-calls.call_ends (record { kept = record_from ws; running = repair_from ps; area = area; packets = [] }) call in
      let done = store_done (record_from ws) (repair_from ps) area call in
      let told = sym (lent calling ws ps area (output_of call) (packets_of_call call) h k) in
      record {
        one = ends.one;
        refuses = λ x f.
            told ∙ ap in_words (ends.refuses x f)
            ∙ ap (λ (w : ℕ). record {
              answer = w;
              words = words_of (record_from ws);
              repair = repair_words_of (repair_from ps);
              area = area;
              output = output_of call;
              packets = packets_of_call call;
            }) (word_number x)
            ∙ back-words ws ps h k (number x) area (output_of call) (packets_of_call call);
        works = λ f.
            told ∙ ap in_words (ends.works f).0
            ∙ ap (λ (w : ℕ). record {
              answer = w;
              words = words_of done.handed;
              repair = repair_words_of done.running;
              area = done.area;
              output = done.output;
              packets = done.packets;
            }) (ap word_of a ∙ word-reported reported);
      }

-- what a step reports
step-reports : (s : Record) (p : Running) (area packets : List ℕ) (allowance : ℕ)
    → (step_done s p area packets allowance).answer ≡ said (Ok (min allowance (packet_count s.sizes (length (fresh_of p)) - p.carried)))
step-reports s p area packets allowance = go (leb (left_of s p area packets) allowance) refl
  where
    left : ℕ
    left = packet_count s.sizes (length (fresh_of p)) - p.carried

    few : allowance < left → allowance ≤ left
    few h = omega (arith, h)

    go : (t : Bool) → leb left allowance ≡ t → (pick t (step_last s p area packets) (step_on s p area packets allowance)).answer ≡ said (Ok (min allowance left))
    go true e = ap (λ (m : ℕ). said (Ok m)) (sym (min-eq_right (leb-true left allowance e)))
    go false e = ap (λ (m : ℕ). said (Ok m)) (sym (min-eq_left (few (leb-false left allowance e))))

module _ (ws ps : List ℕ) (z : Sizes) (xs : List ℕ) (c : ℕ) where
  abbrev made : Outcome
  made = set_up_both (new_record z xs c) idle z xs c

  -- a set-up by whether there are twelve words and 71, and by what the store's gives
  abbrev set : Bool → Outcome → Lent
  set t o = set-up-lent ws ps o t (eqb (word_of o.answer) 0)

  set-up-none : (length ws ≢ 12) ⊎ (length ps ≢ 71) → Unchanged (zbk_set_up ws ps z xs c) ws ps [] [] []
  unfolding zbk_set_up
  set-up-none h = ap (λ (t : Bool). set t made) (both-no (eqb (length ws) 12) (eqb (length ps) 71) (other h))
    where
      other : (length ws ≢ 12) ⊎ (length ps ≢ 71) → (eqb (length ws) 12 ≡ false) ⊎ (eqb (length ps) 71 ≡ false)
      other (inl n) = inl (ne_eqb (length ws) 12 n)
      other (inr n) = inr (ne_eqb (length ps) 71 n)

  set-up-ends : length ws ≡ 12 → length ps ≡ 71
      → LentEnds (record_line (new_record z xs c) ∷ []) ws ps [] [] [] 0 (beside idle (accepted 0 (new_record z xs c) [] [])) (zbk_set_up ws ps z xs c)
  unfolding zbk_set_up
  set-up-ends h k =
      let ends = both-calls.set-up-ends (new_record z xs c) idle z xs c in
      let long = ap (λ (t : Bool). set t made) (both_yes (eqb (length ws) 12) (eqb (length ps) 71) (eq-eqb (length ws) 12 h) (eq-eqb (length ps) 71 k)) in
      record {
        one = ends.one;
        refuses = λ x f.
            long ∙ ap (set true) (ends.refuses x f)
            ∙ ap (λ (w : ℕ). kept-by w (eqb w 0)) (word_number x)
            ∙ ap (kept-by (number x)) (ne_eqb (number x) 0 (λ e. omega (arith, number-low x, e)));
        works = λ f. long ∙ ap (set true) (ends.works f).0;
      }
    where
      kept-by : ℕ → Bool → Lent
      kept-by w b =
          record {
            answer = w;
            words = pick b (words_of (new_record z xs c)) ws;
            repair = pick b (repair_words_of idle) ps;
            area = [];
            output = [];
            packets = [];
          }

-- ---- the text reader

-- what a text tells, with the word of the number of its share's bytes
tells-word : (t : ShareTold) (output : List ℕ) → record {
  answer = 0 + 256 * length t.share;
  head = t.sizes.n ∷ t.sizes.k ∷ t.sizes.d ∷ t.sizes.r ∷ t.node ∷ t.length ∷ [];
  points = t.points;
  output = over t.share output;
} ≡ tells t output
tells-word t output = ap (λ (w : ℕ). record {
  answer = w;
  head = t.sizes.n ∷ t.sizes.k ∷ t.sizes.d ∷ t.sizes.r ∷ t.node ∷ t.length ∷ [];
  points = t.points;
  output = over t.share output;
}) (word-reported (length t.share))

module _ (text head points output : List ℕ) where
  -- by whether there is room for head and points, and by what the reader gives
  abbrev read_by : Bool → ReadOutcome → TextLent
  read_by t r = pick t (read_in_words r head points) (no_room head points output)

  text-none : (length head ≢ 6) ⊎ (length points ≢ 32) → zbk_read_text text head points output ≡ record { answer = 1; head = head; points = points; output = output }
  unfolding zbk_read_text
  text-none h = ap (λ (t : Bool). read_by t (read_text_call text output)) (⊎_elim no-head no-points h)
    where
      no-head : length head ≢ 6 → alls (eqb (length head) 6 ∷ eqb (length points) 32 ∷ []) ≡ false
      no-head k = rw (ne_eqb (length head) 6 k) refl

      no-points : length points ≢ 32 → alls (eqb (length head) 6 ∷ eqb (length points) 32 ∷ []) ≡ false
      no-points k = go (eqb (length head) 6)
        where
          go : (b : Bool) → alls (b ∷ eqb (length points) 32 ∷ []) ≡ false
          go true = rw (ne_eqb (length points) 32 k) refl
          go false = refl

  room : length head ≡ 6 → length points ≡ 32 → zbk_read_text text head points output ≡ read_in_words (read_text_call text output) head points
  unfolding zbk_read_text
  room h p =
      let fits : alls (eqb (length head) 6 ∷ eqb (length points) 32 ∷ []) ≡ true = rw (eq-eqb (length head) 6 h, eq-eqb (length points) 32 p) refl in
      ap (λ (t : Bool). read_by t (read_text_call text output)) fits

  text-ends : length head ≡ 6 → length points ≡ 32
      → TextEnds (read_text_lines text output) head points output (told_of (read_text text)) (zbk_read_text text head points output)
  text-ends h p =
      let ends = (at-text.demand-1).read-ends text output in
      record {
        one = ends.one;
        refuses = λ x k.
            room h p ∙ ap (λ (r : ReadOutcome). read_in_words r head points) (ends.refuses x k)
            ∙ ap (λ (b : Bool). record { answer = number x + 256 * 0; head = pick b (0 ∷ 0 ∷ 0 ∷ 0 ∷ 0 ∷ 0 ∷ []) head; points = pick b (replicate 32 0) points; output = output })
            (ne_eqb (number x) 0 (λ e. omega (arith, number-low x, e)))
            ∙ ap (λ (w : ℕ). record { answer = w; head = head; points = points; output = output }) (word_number x);
        works = λ k. room h p ∙ ap (λ (r : ReadOutcome). read_in_words r head points) (ends.works k).0 ∙ tells-word (told_of (read_text text)) output;
      }

text-gives : (t : ShareTold) (head points output : List ℕ) → Writable t → length head ≡ 6 → length points ≡ 32 → length t.share ≤ length output
    → zbk_read_text (text_of t) head points output ≡ tells t output
text-gives t head points output w h p l =
    room (text_of t) head points output h p ∙ ap (λ (r : ReadOutcome). read_in_words r head points) ((at-text.demand-1).reader-gives t output w l) ∙ tells-word t output

-- ---- board level

word-ends : (lines : List Line) (output bytes : List ℕ) (o : BoardOutcome) → BoardEnds lines output bytes o → WordEnds lines output bytes o
word-ends lines output bytes o ends = record {
  one = ends.one;
  refuses = λ x h. (ap (λ (q : BoardOutcome). word_of q.answer) (ends.refuses x h) ∙ word_number x, ap (λ (q : BoardOutcome). q.output) (ends.refuses x h));
  works = λ h. (ap (λ (q : BoardOutcome). word_of q.answer) (ends.works h).0 ∙ word-reported (length bytes), ap (λ (q : BoardOutcome). q.output) (ends.works h).0);
}

prefix-word : (text : List ℕ) (m : ℕ) → (word_of (said (Ok (longest text))) ≡ 256 * m) ↔ Longest text m
prefix-word text m =
    let laws = prefix-laws.is-longest text m in
    (λ e. laws.0 (omega (arith, e)), λ l. let e : longest text ≡ m = laws.1 l in omega (arith, e))

pub archive-demand-1 : ArchiveCalls
unfolding store_lines store_done
archive-demand-1 = record {
  set-up-ends = set-up-ends;
  write-ends = λ ws ps area file h k. lent-ends ws ps area (write file) 0 h k refl;
  lose-ends = λ ws ps area board h k. lent-ends ws ps area (lose board) 0 h k refl;
  repair-ends = λ ws ps area fresh helpers stand_ins h k. lent-ends ws ps area (repair fresh helpers stand_ins) _ h k refl;
  read-ends = λ ws ps area boards output h k. lent-ends ws ps area (read boards output) 0 h k refl;
  edit-ends = λ ws ps area offset bytes boards h k. lent-ends ws ps area (edit offset bytes boards) 0 h k refl;
  start-ends = λ ws ps area fresh helpers stand_ins h k. lent-ends ws ps area (start fresh helpers stand_ins) 0 h k refl;
  step-ends = λ ws ps area allowance packets h k.
      lent-ends ws ps area (step allowance packets) _ h k (step-reports (record_from ws) (repair_from ps) area packets allowance);
  careful-ends = λ ws ps area boards output h k. lent-ends ws ps area (careful boards output) _ h k refl;
  set-up-none = set-up-none;
  write-none = λ ws ps area file. none ws ps area (write file);
  lose-none = λ ws ps area board. none ws ps area (lose board);
  repair-none = λ ws ps area fresh helpers stand_ins. none ws ps area (repair fresh helpers stand_ins);
  read_none = λ ws ps area boards output. none ws ps area (read boards output);
  edit-none = λ ws ps area offset bytes boards. none ws ps area (edit offset bytes boards);
  start_none = λ ws ps area fresh helpers stand_ins. none ws ps area (start fresh helpers stand_ins);
  step-none = λ ws ps area allowance packets. none ws ps area (step allowance packets);
  move-ends = λ ws ps area board point helpers partners h k. lent-ends ws ps area (move board point helpers partners) _ h k refl;
  move-none = λ ws ps area board point helpers partners. none ws ps area (move board point helpers partners);
  careful-none = λ ws ps area boards output. none ws ps area (careful boards output);
  read-exact = read-exact;
  careful-exact = careful-exact;
  text-ends = text-ends;
  text-none = text-none;
  text-gives = text-gives;
  sizes-are = λ n k d r. refl;
  share-word = λ z xs node file out. word-ends _ out _ _ ((at-board.demand-1).share-ends z xs node file out);
  file-word = λ z xs L boards shares out. word-ends _ out _ _ ((at-board.demand-1).file-ends z xs L boards shares out);
  helper-word = λ z xs L helper receiver held out. word-ends _ out _ _ ((at-board.demand-1).helper-ends z xs L helper receiver held out);
  exchange-word = λ z xs L b helpers packets receiver out. word-ends _ out _ _ ((at-board.demand-1).exchange-ends z xs L b helpers packets receiver out);
  finished-word = λ z xs L b helpers packets partners exchanges out.
      word-ends _ out _ _ ((at-board.demand-1).finished-ends z xs L b helpers packets partners exchanges out);
  text-word = λ z xs L node held out. word-ends _ out _ _ ((at-board.demand-1).text-ends z xs L node held out);
  gather-word = λ text out. word-ends _ out _ _ ((at-text.demand-1).gather-ends text out);
  prefix-word = prefix-word;
}
