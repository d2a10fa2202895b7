-- "On a refusal no word and no byte changes", for all nineteen calls. An answer that is no multiple of 256 is a refusal.
-- proofs/Laws.antt has `archive-laws : ArchiveLaws`.
-- Assumes nothing.
use Rattle.std.specs.Prelude.{◌≡◌, true, false, ◌⊎◌, List, [], ℕ, ◌+◌, ◌*◌, Ok}
use Rattle.sizes.specs.declared.Sizes.{Sizes}
use Rattle.sizes.specs.Refusals.{said}
use Rattle.board_spec.specs.Calls.{BoardOutcome, share_call, file_call, helper_call, exchange_call, finished_call, text_call}
use Rattle.beside_spec.specs.Running.{idle}
use Rattle.beside_spec.specs.Both.{Outcome}
use Rattle.beside_spec.specs.Acting.{Call, write, lose, repair, read, edit, start, careful, move, act, output_of, packets_of_call}
use Rattle.text_spec.specs.Calls.{gather_call}
use Rattle.prefix_spec.specs.Prefix.{longest}
use Rattle.answer_word.specs.Answers.{word_of}
use Rattle.record_words.specs.Words.{is_record, record_from, words_of}
use Rattle.repair_words.specs.RepairWords.{is_repair, repair_from, repair_words_of}
use Rattle.archive_spec.specs.Lent.{Lent, zbk_set_up, zbk}
use Rattle.archive_spec.specs.Texts.{TextLent, zbk_read_text}

-- where it answers a refusal, both records' words, area, output and packet area are these
abbrev pub Keeps : Lent → List ℕ → List ℕ → List ℕ → List ℕ → List ℕ → Type 0
Keeps o ws ps area output packets =
    ((v : ℕ) → o.answer ≡ 256 * v → ⊥)
    → o ≡ record { answer = o.answer; words = ws; repair = ps; area = area; output = output; packets = packets }

-- the same at board level, whose calls take no record
abbrev pub Leaves : BoardOutcome → List ℕ → Type 0
Leaves o output = ((v : ℕ) → word_of o.answer ≡ 256 * v → ⊥) → o.output ≡ output

-- and of the text reader: head, points and output are these
abbrev pub KeepsText : TextLent → List ℕ → List ℕ → List ℕ → Type 0
KeepsText o head points output = ((v : ℕ) → o.answer ≡ 256 * v → ⊥) → o ≡ record { answer = o.answer; head = head; points = points; output = output }

-- a store's call as it stands in words and bytes: the answer by its two parts, every word, every byte
pub record AsStore (o : Lent) (p : Outcome) : Type 0 where
  pub answer-is : o.answer ≡ p.answer.refusal + 256 * p.answer.reported
  pub words_are : o.words ≡ words_of p.handed
  pub repair-are : o.repair ≡ repair_words_of p.running
  pub area-is : o.area ≡ p.area
  pub output-is : o.output ≡ p.output
  pub packets-are : o.packets ≡ p.packets

pub record ArchiveLaws : Type 0 where
  -- over any words and any areas: what the store's call gives on the records that the words tell, whatever packet area the last step left; SIZE, and
  -- nothing changed, where they do not tell both
  pub as_store : (ws ps area left : List ℕ) (call : Call) → is_record ws ≡ true → is_repair ps ≡ true
      → AsStore (zbk ws ps area call) (act (record { kept = record_from ws; running = repair_from ps; area = area; packets = left }) call)
  pub no-record : (ws ps area : List ℕ) (call : Call) → (is_record ws ≡ false) ⊎ (is_repair ps ≡ false)
      → zbk ws ps area call ≡ record { answer = 1; words = ws; repair = ps; area = area; output = output_of call; packets = packets_of_call call }
  -- request A.8: a write, a repair, a read, a careful one, an edit and a move leave the repair's words as they came, whatever they answer; losing leaves them or
  -- those of no repair; a start leaves the record's words and the area, and so does a careful read (A.11): the odd board stays in service, and its bytes
  pub write-beside : (ws ps area file : List ℕ) → (zbk ws ps area (write file)).repair ≡ ps
  pub repair-beside : (ws ps area fresh helpers stand_ins : List ℕ) → (zbk ws ps area (repair fresh helpers stand_ins)).repair ≡ ps
  pub read-beside : (ws ps area boards output : List ℕ) → (zbk ws ps area (read boards output)).repair ≡ ps
  pub edit-beside : (ws ps area : List ℕ) (offset : ℕ) (bytes boards : List ℕ) → (zbk ws ps area (edit offset bytes boards)).repair ≡ ps
  pub lose-beside : (ws ps area : List ℕ) (board : ℕ)
      → ((zbk ws ps area (lose board)).repair ≡ ps) ⊎ ((zbk ws ps area (lose board)).repair ≡ repair_words_of idle)
  pub start-leaves : (ws ps area fresh helpers stand_ins : List ℕ)
      → ((zbk ws ps area (start fresh helpers stand_ins)).words ≡ ws) × ((zbk ws ps area (start fresh helpers stand_ins)).area ≡ area)
  pub careful-beside : (ws ps area boards output : List ℕ) → (zbk ws ps area (careful boards output)).repair ≡ ps
  pub careful-leaves : (ws ps area boards output : List ℕ)
      → ((zbk ws ps area (careful boards output)).words ≡ ws) × ((zbk ws ps area (careful boards output)).area ≡ area)
  pub move-beside : (ws ps area : List ℕ) (board point : ℕ) (helpers partners : List ℕ) → (zbk ws ps area (move board point helpers partners)).repair ≡ ps
  pub share-leaves : (z : Sizes) (xs : List ℕ) (node : ℕ) (file out : List ℕ) → Leaves (share_call z xs node file out) out
  pub file-leaves : (z : Sizes) (xs : List ℕ) (L : ℕ) (boards shares out : List ℕ) → Leaves (file_call z xs L boards shares out) out
  pub helper-leaves : (z : Sizes) (xs : List ℕ) (L helper receiver : ℕ) (share out : List ℕ) → Leaves (helper_call z xs L helper receiver share out) out
  pub exchange-leaves : (z : Sizes) (xs : List ℕ) (L board : ℕ) (helpers packets : List ℕ) (receiver : ℕ) (out : List ℕ)
      → Leaves (exchange_call z xs L board helpers packets receiver out) out
  pub finished-leaves : (z : Sizes) (xs : List ℕ) (L board : ℕ) (helpers packets partners exchanges out : List ℕ)
      → Leaves (finished_call z xs L board helpers packets partners exchanges out) out
  pub text-leaves : (z : Sizes) (xs : List ℕ) (L node : ℕ) (share out : List ℕ) → Leaves (text_call z xs L node share out) out
  pub read-text-keeps : (text head points out : List ℕ) → KeepsText (zbk_read_text text head points out) head points out
  pub gather-leaves : (text out : List ℕ) → Leaves (gather_call text out) out
  -- how far a text makes sense: it is lent nothing that it could change, and refuses nothing
  pub prefix-takes-all : (text : List ℕ) → word_of (said (Ok (longest text))) ≡ 256 * longest text
  pub set-up-keeps : (ws ps : List ℕ) (z : Sizes) (xs : List ℕ) (c : ℕ) → Keeps (zbk_set_up ws ps z xs c) ws ps [] [] []
  pub keeps : (ws ps area : List ℕ) (call : Call) → Keeps (zbk ws ps area call) ws ps area (output_of call) (packets_of_call call)
