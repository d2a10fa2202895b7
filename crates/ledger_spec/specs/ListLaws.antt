-- Lists of calls and power failures, however long: what happens in two lists one after another is what happens in the first and then, where it ended,
-- what happens in the second; one call is that call. proofs/ListLaws.antt has `list-laws : ListLaws`.
-- Assumes nothing.
use Rattle.std.specs.Prelude.{◌≡◌, ◌≢◌, List, [], ◌∷◌, ◌++◌, ℕ}
use Rattle.std.proofs.Math.Option.{none}
use Rattle.beside_spec.specs.Running.{Running}
use Rattle.beside_spec.specs.Both.{Outcome, write_both, lose_both, repair_both, read_both, edit_both, careful_both, start_call, step_call, move_both}
use Rattle.beside_spec.specs.Acting.{Call, write, lose, repair, read, edit, start, step, careful, move, State, act}
use Rattle.ledger_spec.specs.Ledger.{Event, call, power_fails, Book, Step, reply_of, lent, next, told, enter}
use Rattle.ledger_spec.specs.Ledger.{book_next, book_told, replies, final, book_replies, book_final}
use Rattle.ledger_spec.specs.Demand3.{events}

pub record ListLaws : Type 0 where
  -- a call is the one of its name, on both records and the area
  pub writes : (w : State) (file : List ℕ) → act w (write file) ≡ write_both w.kept w.running w.area file
  pub loses : (w : State) (board : ℕ) → act w (lose board) ≡ lose_both w.kept w.running w.area board
  pub repairs : (w : State) (fresh helpers stand_ins : List ℕ)
      → act w (repair fresh helpers stand_ins) ≡ repair_both w.kept w.running w.area fresh helpers stand_ins
  pub reads : (w : State) (boards output : List ℕ) → act w (read boards output) ≡ read_both w.kept w.running w.area boards output
  pub edits : (w : State) (offset : ℕ) (bytes boards : List ℕ)
      → act w (edit offset bytes boards) ≡ edit_both w.kept w.running w.area offset bytes boards
  pub starts : (w : State) (fresh helpers stand_ins : List ℕ)
      → act w (start fresh helpers stand_ins) ≡ start_call w.kept w.running w.area fresh helpers stand_ins
  pub steps : (w : State) (allowance : ℕ) (packets : List ℕ)
      → act w (step allowance packets) ≡ step_call w.kept w.running w.area packets allowance
  pub careful-reads : (w : State) (boards output : List ℕ) → act w (careful boards output) ≡ careful_both w.kept w.running w.area boards output
  pub moves : (w : State) (board point : ℕ) (helpers partners : List ℕ)
      → act w (move board point helpers partners) ≡ move_both w.kept w.running w.area board point helpers partners
  -- it is made on the records that were left and the area as it was altered
  pub lents : (w : State) (t : Step) → lent w t ≡ record { kept = w.kept; running = w.running; area = t.area; packets = w.packets }
  -- it leaves the records that it hands on and the area; its reply is its answer and its output
  pub lefts : (w : State) (c : Call)
      → ((next w (call c)).kept ≡ (act w c).handed) × ((next w (call c)).running ≡ (act w c).running) × ((next w (call c)).area ≡ (act w c).area)
  pub replies-are : (o : Outcome) → ((reply_of o).answer ≡ o.answer) × ((reply_of o).output ≡ o.output)
  pub tells : (w : State) (c : Call) → told w (call c) ≡ reply_of (act w c) ∷ []
  -- the packet area is as the last accepted step left it
  pub steps-leave : (w : State) (allowance : ℕ) (packets : List ℕ) → (act w (step allowance packets)).answer.refusal ≡ 0
      → (next w (call (step allowance packets))).packets ≡ (act w (step allowance packets)).packets
  pub refused-leave : (w : State) (c : Call) → (act w c).answer.refusal ≢ 0 → (next w (call c)).packets ≡ w.packets
  pub others-leave : (w : State) (c : Call) → ((allowance : ℕ) (packets : List ℕ) → c ≢ step allowance packets) → (next w (call c)).packets ≡ w.packets
  -- a power failure leaves the store's record and the area, with the record given beside, no packets, and no reply
  pub fails : (w : State) (p : Running) → next w (power_fails p) ≡ record { kept = w.kept; running = p; area = w.area; packets = [] }
  pub fails-told : (w : State) (p : Running) → told w (power_fails p) ≡ []
  -- so it is with the book: a call is entered, a power failure ends the repair and changes nothing else
  pub book-lefts : (b : Book) (c : Call) → book_next b (call c) ≡ (enter b c).book
  pub book-tells : (b : Book) (c : Call) → book_told b (call c) ≡ (enter b c).reply ∷ []
  pub book-fails : (b : Book) (p : Running)
      → book_next b (power_fails p)
      ≡ record { sizes = b.sizes; points = b.points; capacity = b.capacity; area_length = b.area_length; file = b.file; service = b.service; repairing = none }
  pub book-fails-told : (b : Book) (p : Running) → book_told b (power_fails p) ≡ []
  -- nothing, one event, two lists
  pub final-none : (w : State) → final w [] ≡ w
  pub final-one : (w : State) (t : Step) → final w (t ∷ []) ≡ next (lent w t) t.event
  pub final-parts : (w : State) (ts us : List Step) → final w (ts ++ us) ≡ final (final w ts) us
  pub replies-none : (w : State) → replies w [] ≡ []
  pub replies-one : (w : State) (t : Step) → replies w (t ∷ []) ≡ told (lent w t) t.event
  pub replies-parts : (w : State) (ts us : List Step) → replies w (ts ++ us) ≡ replies w ts ++ replies (final w ts) us
  pub book-final-none : (b : Book) → book_final b [] ≡ b
  pub book-final-one : (b : Book) (e : Event) → book_final b (e ∷ []) ≡ book_next b e
  pub book-final-parts : (b : Book) (es fs : List Event) → book_final b (es ++ fs) ≡ book_final (book_final b es) fs
  pub book-replies-none : (b : Book) → book_replies b [] ≡ []
  pub book-replies-one : (b : Book) (e : Event) → book_replies b (e ∷ []) ≡ book_told b e
  pub book-replies-parts : (b : Book) (es fs : List Event) → book_replies b (es ++ fs) ≡ book_replies b es ++ book_replies (book_final b es) fs
  pub events-none : events [] ≡ []
  pub events-one : (t : Step) → events (t ∷ []) ≡ t.event ∷ []
  pub events-parts : (ts us : List Step) → events (ts ++ us) ≡ events ts ++ events us
