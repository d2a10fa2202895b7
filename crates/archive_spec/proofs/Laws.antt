-- On a refusal no word and no byte changes.
-- Assumes nothing.
use Prim.Native.Nat.{ℕ, ◌+◌, ◌*◌}
use mathlib.Core.Path.{◌≡◌, refl, sym, ap, subst, ◌∙◌}
use mathlib.Core.Bool.{Bool, true, false}
use mathlib.Core.Logic.{◌⊎◌, inl, inr}
use mathlib.Core.List.{List, [], ◌∷◌}
use native.Mathlib.Omega.{arith}
use lib.Dec.{eqb}
use lib.ListN.{length}
use borrow.Author.Tests.{eqb-true, ne_eqb}
use Rattle.lists.specs.Tests.{pick, alls, among}
use Rattle.sizes.specs.declared.Sizes.{Sizes}
use Rattle.std.specs.Prelude.{Ok, Err}
use Rattle.sizes.specs.Refusals.{number, first, board_order, store_order, Check}
use Rattle.sizes.specs.Sizing.{stripes}
use Rattle.sizes.proofs.Laws.{number-low}
use Rattle.mbcr.specs.Share.{share}
use Rattle.mbcr.specs.Rebuild.{helper_packet, exchange_packet, finished_share}
use Rattle.mbcr.specs.Read.{read_file}
use Rattle.board_spec.specs.Calls.{settled, file_of, share_lines, share_call, file_lines, file_call, helper_lines, helper_call}
use Rattle.board_spec.specs.Calls.{exchange_lines, exchange_call, finished_lines, finished_call, text_lines, text_call}
use Rattle.board_spec.specs.Text.{share_text}
use Rattle.store_spec.specs.Record.{Record, new_record}
use Rattle.beside_spec.specs.Running.{Running, idle, named_in}
use Rattle.beside_spec.specs.Both.{Outcome, set_up_both}
use Rattle.beside_spec.specs.BothCalls.{store_lines, store_done}
use Rattle.beside_spec.specs.Acting.{Call, write, lose, repair, read, edit, start, careful, move, State, act, output_of, packets_of_call}
use Rattle.beside_spec.proofs.BothCalls.{by, act-is}
use Rattle.list_spec.proofs.Follows.{act-any}
use Rattle.beside_spec.proofs.HandedLaws.{handed-laws}
use Rattle.text_spec.specs.Texts.{ShareTold, read_text, texts_of}
use Rattle.text_spec.specs.Calls.{blank, told_of, read_settled, read_text_lines, read_text_call, texts_told, gathered, gather_lines, gather_call}
use Rattle.answer_word.specs.Answers.{word_of}
use Rattle.record_words.specs.Words.{is_record, record_from, words_of}
use Rattle.text_words.specs.Words.{head_of}
use Rattle.record_words.proofs.Laws.{word_laws}
use Rattle.repair_words.specs.RepairWords.{is_repair, repair_from, repair_words_of}
use Rattle.repair_words.proofs.RepairWords.{repair-words}
use Rattle.archive_spec.specs.Lent.{Lent, no_record, in_words, zbk_set_up, zbk}
use Rattle.archive_spec.specs.Texts.{no_room, read_in_words, zbk_read_text}
use Rattle.archive_spec.specs.Laws.{AsStore, Keeps, Leaves, KeepsText, ArchiveLaws}
use Rattle.archive_spec.proofs.InWords.{lent, not-lent, back-words, set-up-lent}

set-up-keeps : (ws ps : List ℕ) (z : Sizes) (xs : List ℕ) (c : ℕ) → Keeps (zbk_set_up ws ps z xs c) ws ps [] [] []
unfolding zbk_set_up
set-up-keeps ws ps z xs c = go (alls (eqb (length ws) 12 ∷ eqb (length ps) 71 ∷ [])) (eqb (word_of o.answer) 0) refl
  where
    o : Outcome
    o = set_up_both (new_record z xs c) idle z xs c

    go : (t b : Bool) → eqb (word_of o.answer) 0 ≡ b → Keeps (set-up-lent ws ps o t b) ws ps [] [] []
    go true true e h = absurd (h 0 (omega (arith, eqb-true (word_of o.answer) 0 e)))
    go true false e h = refl
    go false b e h = refl

-- the store's call on the records that the words tell
module _ (ws ps area : List ℕ) where
  abbrev state : State
  state = record { kept = record_from ws; running = repair_from ps; area = area; packets = [] }

  -- a call by whether the words tell both records
  by-words : (P : Lent → Type 0) (call : Call)
      → (is_record ws ≡ true → is_repair ps ≡ true → P (in_words (act state call)))
      → P (no_record ws ps area (output_of call) (packets_of_call call))
      → P (zbk ws ps area call)
  by-words P call tell other = go (is_record ws) refl (is_repair ps) refl
    where
      go : (a : Bool) → is_record ws ≡ a → (b : Bool) → is_repair ps ≡ b
          → P (pick (alls (a ∷ b ∷ [])) (in_words (act state call)) (no_record ws ps area (output_of call) (packets_of_call call)))
      go true h true k = tell h k
      go true h false k = other
      go false h b k = other

  -- a call on both records' words: it is refused, and the words come back; or it is not
  keeps : (call : Call) → Keeps (zbk ws ps area call) ws ps area (output_of call) (packets_of_call call)
  keeps call =
      by-words (λ o. Keeps o ws ps area (output_of call) (packets_of_call call)) call
      (λ is-record is-repair h.
      let o = act state call in
      ap in_words (handed-laws.refused-keeps state call (λ e. h o.answer.reported (omega (arith, e))))
      ∙ back-words ws ps is-record is-repair (word_of o.answer) area (output_of call) (packets_of_call call))
      (λ h. refl)

  -- what a call hands on beside the record: what it does, or what came
  beside-done : (call : Call) (P : Running → Type 0) → P (repair_from ps) → P (store_done (record_from ws) (repair_from ps) area call).running → P (act state call).running
  beside-done call P a b = go (first store_order (store_lines (record_from ws) (repair_from ps) area call)) (act-is state call)
    where
      go : (t : Check)
          → act state call ≡ by (record_from ws) (repair_from ps) area (output_of call) (packets_of_call call) (store_done (record_from ws) (repair_from ps) area call) t
          → P (act state call).running
      go (Ok tt) e = subst P (sym (ap (λ (o : Outcome). o.running) e)) b
      go (Err x) e = subst P (sym (ap (λ (o : Outcome). o.running) e)) a

  beside-stays : (call : Call) → (store_done (record_from ws) (repair_from ps) area call).running ≡ repair_from ps → (zbk ws ps area call).repair ≡ ps
  beside-stays call e =
      by-words (λ o. o.repair ≡ ps) call
      (λ is-record is-repair. ap repair_words_of (beside-done call (λ p. p ≡ repair_from ps) refl e) ∙ repair-words.words_back ps is-repair)
      refl

  -- losing
  lost-either : (t : Bool) → (pick t idle (repair_from ps) ≡ repair_from ps) ⊎ (pick t idle (repair_from ps) ≡ idle)
  lost-either true = inr refl
  lost-either false = inl refl

  lose-beside : (board : ℕ) → ((zbk ws ps area (lose board)).repair ≡ ps) ⊎ ((zbk ws ps area (lose board)).repair ≡ repair_words_of idle)
  unfolding store_done
  lose-beside board =
      by-words (λ o. (o.repair ≡ ps) ⊎ (o.repair ≡ repair_words_of idle)) (lose board)
      (λ is-record is-repair.
      in-words is-repair (act state (lose board)).running
      (beside-done (lose board) (λ p. (p ≡ repair_from ps) ⊎ (p ≡ idle)) (inl refl)
      (lost-either (alls ((repair_from ps).running ∷ among (named_in (record_from ws).sizes (repair_from ps)) board ∷ [])))))
      (inl refl)
    where
      in-words : is_repair ps ≡ true → (p : Running) → (p ≡ repair_from ps) ⊎ (p ≡ idle) → (repair_words_of p ≡ ps) ⊎ (repair_words_of p ≡ repair_words_of idle)
      in-words k p (inl e) = inl (ap repair_words_of e ∙ repair-words.words_back ps k)
      in-words k p (inr e) = inr (ap repair_words_of e)

  -- starting, and a careful read: the record and the area stay where the work leaves them
  both-stay : (call : Call) → ((store_done (record_from ws) (repair_from ps) area call).handed ≡ record_from ws) × ((store_done (record_from ws) (repair_from ps) area call).area ≡ area)
      → ((zbk ws ps area call).words ≡ ws) × ((zbk ws ps area call).area ≡ area)
  both-stay call d =
      by-words (λ o. (o.words ≡ ws) × (o.area ≡ area)) call
      (λ is-record is-repair.
      let e = stay (first store_order (store_lines (record_from ws) (repair_from ps) area call)) (act-is state call) in
      (ap words_of e.0 ∙ word_laws.words_back ws is-record, e.1))
      (refl, refl)
    where
      stay : (t : Check)
          → act state call ≡ by (record_from ws) (repair_from ps) area (output_of call) (packets_of_call call) (store_done (record_from ws) (repair_from ps) area call) t
          → ((act state call).handed ≡ record_from ws) × ((act state call).area ≡ area)
      stay (Ok tt) e = (ap (λ (o : Outcome). o.handed) e ∙ d.0, ap (λ (o : Outcome). o.area) e ∙ d.1)
      stay (Err x) e = (ap (λ (o : Outcome). o.handed) e, ap (λ (o : Outcome). o.area) e)

  start-leaves : (fresh helpers stand_ins : List ℕ)
      → ((zbk ws ps area (start fresh helpers stand_ins)).words ≡ ws) × ((zbk ws ps area (start fresh helpers stand_ins)).area ≡ area)
  unfolding store_done
  start-leaves fresh helpers stand_ins = both-stay (start fresh helpers stand_ins) (refl, refl)

  careful-leaves : (boards output : List ℕ) → ((zbk ws ps area (careful boards output)).words ≡ ws) × ((zbk ws ps area (careful boards output)).area ≡ area)
  unfolding store_done
  careful-leaves boards output = both-stay (careful boards output) (refl, refl)

-- ---- board level

kept : (t : Check) (bytes out : List ℕ) → Leaves (settled t bytes out) out
kept (Err x) bytes out h = refl
kept (Ok tt) bytes out h = absurd (h (length bytes) (omega arith))

share-leaves : (z : Sizes) (xs : List ℕ) (node : ℕ) (file out : List ℕ) → Leaves (share_call z xs node file out) out
unfolding share_call
share-leaves z xs node file out = kept (first board_order (share_lines z xs node file out)) (share z xs file node) out

file-leaves : (z : Sizes) (xs : List ℕ) (L : ℕ) (boards shares out : List ℕ) → Leaves (file_call z xs L boards shares out) out
unfolding file_call
file-leaves z xs L boards shares out = kept (first board_order (file_lines z xs L boards shares out)) (file_of (read_file z xs L boards shares)) out

helper-leaves : (z : Sizes) (xs : List ℕ) (L helper receiver : ℕ) (share out : List ℕ) → Leaves (helper_call z xs L helper receiver share out) out
unfolding helper_call
helper-leaves z xs L helper receiver held out = kept (first board_order (helper_lines z xs L helper receiver held out)) (helper_packet z xs (stripes z L) helper receiver held) out

exchange-leaves : (z : Sizes) (xs : List ℕ) (L board : ℕ) (helpers packets : List ℕ) (receiver : ℕ) (out : List ℕ)
    → Leaves (exchange_call z xs L board helpers packets receiver out) out
unfolding exchange_call
exchange-leaves z xs L board helpers packets receiver out =
    kept (first board_order (exchange_lines z xs L board helpers packets receiver out)) (exchange_packet z xs (stripes z L) helpers packets receiver) out

finished-leaves : (z : Sizes) (xs : List ℕ) (L board : ℕ) (helpers packets partners exchanges out : List ℕ)
    → Leaves (finished_call z xs L board helpers packets partners exchanges out) out
unfolding finished_call
finished-leaves z xs L board helpers packets partners exchanges out =
    kept (first board_order (finished_lines z xs L board helpers packets partners exchanges out)) (finished_share z xs (stripes z L) board helpers packets partners exchanges) out

text-leaves : (z : Sizes) (xs : List ℕ) (L node : ℕ) (share out : List ℕ) → Leaves (text_call z xs L node share out) out
unfolding text_call
text-leaves z xs L node held out = kept (first board_order (text_lines z xs L node held out)) (share_text z xs L node held) out

gather-leaves : (text out : List ℕ) → Leaves (gather_call text out) out
unfolding gather_call
gather-leaves text out = kept (first board_order (gather_lines text out)) (file_of (gathered (texts_told (texts_of text)))) out

-- ---- the text reader: it is refused, and head and points stay; or it is not
read-text-keeps : (text head points out : List ℕ) → KeepsText (zbk_read_text text head points out) head points out
unfolding zbk_read_text read_text_call
read-text-keeps text head points out =
    go (alls (eqb (length head) 6 ∷ eqb (length points) 32 ∷ [])) (first board_order (read_text_lines text out)) (told_of (read_text text))
  where
    go : (t : Bool) (c : Check) (told : ShareTold) → KeepsText (pick t (read_in_words (read_settled c told out) head points) (no_room head points out)) head points out
    go false c told h = refl
    go true (Ok tt) told h = absurd (h (length told.share) (omega arith))
    go true (Err x) told h =
        ap (λ (b : Bool). record {
          answer = number x + 256 * 0;
          head = pick b (head_of blank.sizes 0 0) head;
          points = pick b blank.points points;
          output = out;
        })
        (ne_eqb (number x) 0 (λ e. omega (arith, number-low x, e)))

as_store : (ws ps area left : List ℕ) (call : Call) → is_record ws ≡ true → is_repair ps ≡ true
    → AsStore (zbk ws ps area call) (act (record { kept = record_from ws; running = repair_from ps; area = area; packets = left }) call)
as_store ws ps area left call h k =
    let f : Record → Running → Outcome = λ s p. act (record { kept = s; running = p; area = area; packets = [] }) call in
    let e : zbk ws ps area call ≡ in_words (act (record { kept = record_from ws; running = repair_from ps; area = area; packets = left }) call) =
    sym (lent f ws ps area (output_of call) (packets_of_call call) h k) ∙ ap in_words (act-any (record_from ws) (repair_from ps) area [] left call) in
    record {
      answer-is = ap (λ (o : Lent). o.answer) e;
      words_are = ap (λ (o : Lent). o.words) e;
      repair-are = ap (λ (o : Lent). o.repair) e;
      area-is = ap (λ (o : Lent). o.area) e;
      output-is = ap (λ (o : Lent). o.output) e;
      packets-are = ap (λ (o : Lent). o.packets) e;
    }

no-record : (ws ps area : List ℕ) (call : Call) → (is_record ws ≡ false) ⊎ (is_repair ps ≡ false)
    → zbk ws ps area call ≡ record { answer = 1; words = ws; repair = ps; area = area; output = output_of call; packets = packets_of_call call }
no-record ws ps area call h =
    not-lent (λ s p. act (record { kept = s; running = p; area = area; packets = [] }) call) ws ps area (output_of call) (packets_of_call call) h

pub archive-laws : ArchiveLaws
unfolding store_done
archive-laws = record {
  as_store = as_store;
  no-record = no-record;
  write-beside = λ ws ps area file. beside-stays ws ps area (write file) refl;
  repair-beside = λ ws ps area fresh helpers stand_ins. beside-stays ws ps area (repair fresh helpers stand_ins) refl;
  read-beside = λ ws ps area boards output. beside-stays ws ps area (read boards output) refl;
  edit-beside = λ ws ps area offset bytes boards. beside-stays ws ps area (edit offset bytes boards) refl;
  lose-beside = lose-beside;
  start-leaves = start-leaves;
  careful-beside = λ ws ps area boards output. beside-stays ws ps area (careful boards output) refl;
  careful-leaves = careful-leaves;
  move-beside = λ ws ps area board point helpers partners. beside-stays ws ps area (move board point helpers partners) refl;
  share-leaves = share-leaves;
  file-leaves = file-leaves;
  helper-leaves = helper-leaves;
  exchange-leaves = exchange-leaves;
  finished-leaves = finished-leaves;
  text-leaves = text-leaves;
  read-text-keeps = read-text-keeps;
  gather-leaves = gather-leaves;
  prefix-takes-all = λ text. omega arith;
  set-up-keeps = set-up-keeps;
  keeps = keeps;
}
