-- Demand 1 of the archive, and the reader's exactness, for every words, area, list and text: what each of the nineteen calls answers, and every word and
-- byte that it was lent, are those of the definitions of document 01, over the records that the words tell; where they do not tell both it is SIZE, and
-- nothing changes. proofs/Demand1.antt has `archive-demand-1 : ArchiveCalls`.
-- Assumes nothing.
use Rattle.std.specs.Prelude.{◌≡◌, true, false, ◌≢◌, ◌↔◌, ◌⊎◌, List, [], ◌∷◌, ℕ, ◌+◌, ◌-◌, ◌*◌, ◌≤◌, min, length, Ok}
use Rattle.lists.specs.Lists.{All, Bytes, over}
use Rattle.sizes.specs.declared.Sizes.{Sizes}
use Rattle.sizes.specs.declared.Refusal.{Refusal}
use Rattle.sizes.specs.declared.Refusal.TheVariants.{Disagree}
use Rattle.sizes.specs.Sizing.{stripes}
use Rattle.sizes.specs.Refusals.{number, said, Line, applies_in, store_order, board_order}
use Rattle.sizes.specs.Laws.{First}
use Rattle.mbcr.specs.Share.{share}
use Rattle.mbcr.specs.Rebuild.{helper_packet, exchange_packet, finished_share}
use Rattle.mbcr.specs.Read.{read_file}
use Rattle.board_spec.specs.Text.{share_text}
use Rattle.board_spec.specs.Calls.{BoardOutcome, file_of, share_lines, share_call, file_lines, file_call, helper_lines, helper_call}
use Rattle.board_spec.specs.Calls.{exchange_lines, exchange_call, finished_lines, finished_call, text_lines, text_call}
use Rattle.store_spec.specs.Record.{new_record, held}
use Rattle.store_spec.specs.Packets.{total, repair_packets}
use Rattle.store_spec.specs.Calls.{accepted, record_line, write_done, lose_done, repair_done, read_done}
use Rattle.store_spec.specs.Edit.{edit_done}
use Rattle.store_spec.specs.Careful.{agreeing, odd, careful_file, odd_report, careful_done}
use Rattle.store_spec.specs.CarefulLaws.{OddTold}
use Rattle.beside_spec.specs.Running.{idle, running_by, fresh_of, packet_count}
use Rattle.beside_spec.specs.Both.{Outcome, beside, lost_beside, write_lines_both, lose_lines_both, repair_lines_both, read_lines_both, edit_lines_both, careful_lines_both, step_lines, step_done, move_lines_both}
use Rattle.beside_spec.specs.Acting.{write, lose, repair, read, edit, start, step, careful, move}
use Rattle.store_spec.specs.Move.{move_packets, move_done}
use Rattle.text_spec.specs.Texts.{ShareTold, text_of, read_text, texts_of}
use Rattle.text_spec.specs.Laws.{Writable}
use Rattle.text_spec.specs.Calls.{told_of, read_text_lines, texts_told, gathered, gather_lines, gather_call}
use Rattle.prefix_spec.specs.Prefix.{longest}
use Rattle.prefix_spec.specs.Laws.{Longest}
use Rattle.answer_word.specs.Answers.{word_of}
use Rattle.record_words.specs.Words.{is_record, record_from, words_of}
use Rattle.repair_words.specs.RepairWords.{is_repair, repair_from, repair_words_of}
use Rattle.archive_spec.specs.Archive.{sizes_of}
use Rattle.archive_spec.specs.Lent.{Lent, zbk_set_up, zbk}
use Rattle.archive_spec.specs.Texts.{TextLent, zbk_read_text}

-- One call of the store: its lines; both records' words, area, output and packet area as they came; what it reports and does where no line holds; and what
-- it gave.
pub record LentEnds (lines : List Line) (ws ps area output packets : List ℕ) (reported : ℕ) (done : Outcome) (o : Lent) : Type 0 where
  -- some line is the first that holds, or none holds
  pub one : ((x : Refusal) × First store_order lines x) ⊎ All (λ x. applies_in lines x ≡ false) store_order
  -- the first that holds is answered, and every word and byte is as it came
  pub refuses : (x : Refusal) → First store_order lines x
      → o ≡ record { answer = number x; words = ws; repair = ps; area = area; output = output; packets = packets }
  -- else it does its work: the number reported stands above eight bits 0
  pub works : All (λ x. applies_in lines x ≡ false) store_order
      → o ≡ record {
        answer = 256 * reported;
        words = words_of done.handed;
        repair = repair_words_of done.running;
        area = done.area;
        output = done.output;
        packets = done.packets;
      }

-- One call at board level, whose contract gives the word of its answer and its output.
pub record WordEnds (lines : List Line) (output bytes : List ℕ) (o : BoardOutcome) : Type 0 where
  pub one : ((x : Refusal) × First board_order lines x) ⊎ All (λ x. applies_in lines x ≡ false) board_order
  pub refuses : (x : Refusal) → First board_order lines x → (word_of o.answer ≡ number x) × (o.output ≡ output)
  pub works : All (λ x. applies_in lines x ≡ false) board_order → (word_of o.answer ≡ 256 * length bytes) × (o.output ≡ over bytes output)

-- what a text tells, in words and bytes
abbrev pub tells : ShareTold → List ℕ → TextLent
tells t output =
    record {
      answer = 256 * length t.share;
      head = t.sizes.n ∷ t.sizes.k ∷ t.sizes.d ∷ t.sizes.r ∷ t.node ∷ t.length ∷ [];
      points = t.points;
      output = over t.share output;
    }

-- The text reader.
pub record TextEnds (lines : List Line) (head points output : List ℕ) (t : ShareTold) (o : TextLent) : Type 0 where
  pub one : ((x : Refusal) × First board_order lines x) ⊎ All (λ x. applies_in lines x ≡ false) board_order
  pub refuses : (x : Refusal) → First board_order lines x → o ≡ record { answer = number x; head = head; points = points; output = output }
  pub works : All (λ x. applies_in lines x ≡ false) board_order → o ≡ tells t output

-- SIZE, and nothing changed
abbrev pub Unchanged : Lent → List ℕ → List ℕ → List ℕ → List ℕ → List ℕ → Type 0
Unchanged o ws ps area output packets = o ≡ record { answer = 1; words = ws; repair = ps; area = area; output = output; packets = packets }

-- words that are no record's, or words beside them that are no repair's record
abbrev pub Neither : List ℕ → List ℕ → Type 0
Neither ws ps = (is_record ws ≡ false) ⊎ (is_repair ps ≡ false)

pub record ArchiveCalls : Type 0 where
  -- ---- the store, on words that tell both records
  pub set-up-ends : (ws ps : List ℕ) (z : Sizes) (xs : List ℕ) (c : ℕ) → length ws ≡ 12 → length ps ≡ 71
      → LentEnds (record_line (new_record z xs c) ∷ []) ws ps [] [] [] 0 (beside idle (accepted 0 (new_record z xs c) [] [])) (zbk_set_up ws ps z xs c)
  pub write-ends : (ws ps area file : List ℕ) → is_record ws ≡ true → is_repair ps ≡ true
      → LentEnds (write_lines_both (record_from ws) (repair_from ps) (length area) file) ws ps area [] [] 0
      (beside (repair_from ps) (write_done (record_from ws) area file)) (zbk ws ps area (write file))
  pub lose-ends : (ws ps area : List ℕ) (board : ℕ) → is_record ws ≡ true → is_repair ps ≡ true
      → LentEnds (lose_lines_both (record_from ws) (repair_from ps) board) ws ps area [] [] 0
      (beside (lost_beside (record_from ws) (repair_from ps) board) (lose_done (record_from ws) area board)) (zbk ws ps area (lose board))
  pub repair-ends : (ws ps area fresh helpers stand_ins : List ℕ) → is_record ws ≡ true → is_repair ps ≡ true
      → LentEnds (repair_lines_both (record_from ws) (repair_from ps) (length area) fresh helpers stand_ins) ws ps area [] []
      (total (repair_packets (record_from ws) area fresh helpers stand_ins))
      (beside (repair_from ps) (repair_done (record_from ws) area fresh helpers stand_ins)) (zbk ws ps area (repair fresh helpers stand_ins))
  pub read-ends : (ws ps area boards output : List ℕ) → is_record ws ≡ true → is_repair ps ≡ true
      → LentEnds (read_lines_both (record_from ws) (repair_from ps) area boards output) ws ps area output [] 0
      (beside (repair_from ps) (read_done (record_from ws) area boards output)) (zbk ws ps area (read boards output))
  pub edit-ends : (ws ps area : List ℕ) (offset : ℕ) (bytes boards : List ℕ) → is_record ws ≡ true → is_repair ps ≡ true
      → LentEnds (edit_lines_both (record_from ws) (repair_from ps) area offset bytes boards) ws ps area [] [] 0
      (beside (repair_from ps) (edit_done (record_from ws) area offset bytes boards)) (zbk ws ps area (edit offset bytes boards))
  -- request A.8: a start asks what a repair asks and carries nothing; a step reports the packets that it carried, and is lent the packet area
  pub start-ends : (ws ps area fresh helpers stand_ins : List ℕ) → is_record ws ≡ true → is_repair ps ≡ true
      → LentEnds (repair_lines_both (record_from ws) (repair_from ps) (length area) fresh helpers stand_ins) ws ps area [] [] 0
      (beside (running_by fresh helpers stand_ins 0) (accepted 0 (record_from ws) area [])) (zbk ws ps area (start fresh helpers stand_ins))
  pub step-ends : (ws ps area : List ℕ) (allowance : ℕ) (packets : List ℕ) → is_record ws ≡ true → is_repair ps ≡ true
      → LentEnds (step_lines (record_from ws) (repair_from ps) (length area) (length packets)) ws ps area [] packets
      (min allowance (packet_count (record_from ws).sizes (length (fresh_of (repair_from ps))) - (repair_from ps).carried))
      (step_done (record_from ws) (repair_from ps) area packets allowance) (zbk ws ps area (step allowance packets))
  -- request A.11: a careful read reports 0 where no board is odd, else the odd board's number plus 1
  pub careful-ends : (ws ps area boards output : List ℕ) → is_record ws ≡ true → is_repair ps ≡ true
      → LentEnds (careful_lines_both (record_from ws) (repair_from ps) area boards output) ws ps area output []
      (odd_report (odd (record_from ws) area (file_of (careful_file (record_from ws) area boards)) boards))
      (beside (repair_from ps) (careful_done (record_from ws) area boards output)) (zbk ws ps area (careful boards output))
  -- request A.10: a move reports the summed length of its packets
  pub move-ends : (ws ps area : List ℕ) (board point : ℕ) (helpers partners : List ℕ) → is_record ws ≡ true → is_repair ps ≡ true
      → LentEnds (move_lines_both (record_from ws) (repair_from ps) (length area) board point helpers partners) ws ps area [] []
      (total (move_packets (record_from ws) area board point helpers partners))
      (beside (repair_from ps) (move_done (record_from ws) area board point helpers partners)) (zbk ws ps area (move board point helpers partners))
  -- ---- and on words that do not tell both
  pub set-up-none : (ws ps : List ℕ) (z : Sizes) (xs : List ℕ) (c : ℕ) → (length ws ≢ 12) ⊎ (length ps ≢ 71)
      → Unchanged (zbk_set_up ws ps z xs c) ws ps [] [] []
  pub write-none : (ws ps area file : List ℕ) → Neither ws ps → Unchanged (zbk ws ps area (write file)) ws ps area [] []
  pub lose-none : (ws ps area : List ℕ) (board : ℕ) → Neither ws ps → Unchanged (zbk ws ps area (lose board)) ws ps area [] []
  pub repair-none : (ws ps area fresh helpers stand_ins : List ℕ) → Neither ws ps
      → Unchanged (zbk ws ps area (repair fresh helpers stand_ins)) ws ps area [] []
  pub read_none : (ws ps area boards output : List ℕ) → Neither ws ps → Unchanged (zbk ws ps area (read boards output)) ws ps area output []
  pub edit-none : (ws ps area : List ℕ) (offset : ℕ) (bytes boards : List ℕ) → Neither ws ps
      → Unchanged (zbk ws ps area (edit offset bytes boards)) ws ps area [] []
  pub start_none : (ws ps area fresh helpers stand_ins : List ℕ) → Neither ws ps
      → Unchanged (zbk ws ps area (start fresh helpers stand_ins)) ws ps area [] []
  pub step-none : (ws ps area : List ℕ) (allowance : ℕ) (packets : List ℕ) → Neither ws ps
      → Unchanged (zbk ws ps area (step allowance packets)) ws ps area [] packets
  pub careful-none : (ws ps area boards output : List ℕ) → Neither ws ps → Unchanged (zbk ws ps area (careful boards output)) ws ps area output []
  pub move-none : (ws ps area : List ℕ) (board point : ℕ) (helpers partners : List ℕ) → Neither ws ps
      → Unchanged (zbk ws ps area (move board point helpers partners)) ws ps area [] []
  -- ---- a read over any bytes, where no line but DISAGREE holds: it gives f exactly when f has length L and the k boards hold its shares, and answers 10
  -- with every byte of the output as it came exactly when there is no such file
  pub read-exact : (ws ps area boards output : List ℕ) → is_record ws ≡ true → is_repair ps ≡ true → Bytes area
      → All (λ x. (x ≡ Disagree) ⊎ (applies_in (read_lines_both (record_from ws) (repair_from ps) area boards output) x ≡ false)) store_order
      → ((file : List ℕ) → length file ≡ (record_from ws).length → Bytes file
      → (zbk ws ps area (read boards output) ≡ record { answer = 0; words = ws; repair = ps; area = area; output = over file output; packets = [] })
      ↔ All (λ i. held (record_from ws) area i ≡ share (record_from ws).sizes (record_from ws).points file i) boards)
      × ((zbk ws ps area (read boards output) ≡ record { answer = 10; words = ws; repair = ps; area = area; output = output; packets = [] })
      ↔ ((file : List ℕ) → length file ≡ (record_from ws).length → Bytes file
      → All (λ i. held (record_from ws) area i ≡ share (record_from ws).sizes (record_from ws).points file i) boards → ⊥))
  -- so it is with a careful read: it gives f, and the odd board's number or none, exactly when f has length L and all its boards but at most that one hold their
  -- shares, and answers 10 exactly when no file's shares agree with k + 1 of them
  pub careful-exact : (ws ps area boards output : List ℕ) → is_record ws ≡ true → is_repair ps ≡ true → Bytes area
      → All (λ x. (x ≡ Disagree) ⊎ (applies_in (careful_lines_both (record_from ws) (repair_from ps) area boards output) x ≡ false)) store_order
      → ((file : List ℕ) → length file ≡ (record_from ws).length → Bytes file → (v : ℕ)
      → (zbk ws ps area (careful boards output) ≡ record { answer = 256 * v; words = ws; repair = ps; area = area; output = over file output; packets = [] })
      ↔ OddTold (record_from ws) area file boards v)
      × ((zbk ws ps area (careful boards output) ≡ record { answer = 10; words = ws; repair = ps; area = area; output = output; packets = [] })
      ↔ ((file : List ℕ) → length file ≡ (record_from ws).length → Bytes file
      → (record_from ws).sizes.k + 1 ≤ length (agreeing (record_from ws) area file boards) → ⊥))
  -- ---- the text reader
  pub text-ends : (text head points output : List ℕ) → length head ≡ 6 → length points ≡ 32
      → TextEnds (read_text_lines text output) head points output (told_of (read_text text)) (zbk_read_text text head points output)
  pub text-none : (text head points output : List ℕ) → (length head ≢ 6) ⊎ (length points ≢ 32)
      → zbk_read_text text head points output ≡ record { answer = 1; head = head; points = points; output = output }
  -- a text that was written tells what it was written of
  pub text-gives : (t : ShareTold) (head points output : List ℕ) → Writable t → length head ≡ 6 → length points ≡ 32 → length t.share ≤ length output
      → zbk_read_text (text_of t) head points output ≡ tells t output
  -- ---- board level, at the points that are lent
  pub sizes-are : (n k d r : ℕ) → sizes_of n k d r ≡ record { n = n; k = k; d = d; r = r }
  pub share-word : (z : Sizes) (xs : List ℕ) (node : ℕ) (file out : List ℕ)
      → WordEnds (share_lines z xs node file out) out (share z xs file node) (share_call z xs node file out)
  pub file-word : (z : Sizes) (xs : List ℕ) (L : ℕ) (boards shares out : List ℕ)
      → WordEnds (file_lines z xs L boards shares out) out (file_of (read_file z xs L boards shares)) (file_call z xs L boards shares out)
  pub helper-word : (z : Sizes) (xs : List ℕ) (L helper receiver : ℕ) (share out : List ℕ)
      → WordEnds (helper_lines z xs L helper receiver share out) out (helper_packet z xs (stripes z L) helper receiver share) (helper_call z xs L helper receiver share out)
  pub exchange-word : (z : Sizes) (xs : List ℕ) (L board : ℕ) (helpers packets : List ℕ) (receiver : ℕ) (out : List ℕ)
      → WordEnds (exchange_lines z xs L board helpers packets receiver out) out (exchange_packet z xs (stripes z L) helpers packets receiver)
      (exchange_call z xs L board helpers packets receiver out)
  pub finished-word : (z : Sizes) (xs : List ℕ) (L board : ℕ) (helpers packets partners exchanges out : List ℕ)
      → WordEnds (finished_lines z xs L board helpers packets partners exchanges out) out (finished_share z xs (stripes z L) board helpers packets partners exchanges)
      (finished_call z xs L board helpers packets partners exchanges out)
  pub text-word : (z : Sizes) (xs : List ℕ) (L node : ℕ) (share out : List ℕ)
      → WordEnds (text_lines z xs L node share out) out (share_text z xs L node share) (text_call z xs L node share out)
  pub gather-word : (text out : List ℕ) → WordEnds (gather_lines text out) out (file_of (gathered (texts_told (texts_of text)))) (gather_call text out)
  -- how far a text makes sense: the word has a number above eight bits 0 just where that is the length of the longest beginning that makes sense
  pub prefix-word : (text : List ℕ) (m : ℕ) → (word_of (said (Ok (longest text))) ≡ 256 * m) ↔ Longest text m
