-- Lists of the archive's calls, however long: what stands one after another, where it ends, what is compared, and which lists are allowed.
-- proofs/ListLaws.antt has `lent-laws : LentLaws`.
-- Assumes nothing.
use Rattle.std.specs.Prelude.{◌≡◌, true, ◌≢◌, ◌↔◌, List, [], ◌∷◌, ◌++◌, map, ℕ, ◌+◌, ◌*◌, ◌%◌, ◌<◌, length, get_or}
use Rattle.lists.specs.Lists.{All}
use Rattle.sizes.specs.declared.Sizes.{Sizes}
use Rattle.beside_spec.specs.Running.{Running}
use Rattle.beside_spec.specs.HandedLaws.{Arrays}
use Rattle.beside_spec.specs.Acting.{Call, step, move}
use Rattle.ledger_spec.specs.Ledger.{call, power_fails, Reply, Book, Step, FairEvent, replies, final, open_book, book_next, book_final}
use Rattle.ledger_spec.specs.Demand3.{events}
use Rattle.ledger_spec.specs.Premises.{Asked}
use Rattle.record_words.specs.Words.{is_record, record_from}
use Rattle.repair_words.specs.RepairWords.{is_repair, repair_from, repair_words_of}
use Rattle.archive_spec.specs.Lent.{Lent, zbk_set_up, zbk}
use Rattle.archive_spec.specs.Demand3.{Held, held_next, lent_at, lents, last_held, GivenWords, AllowedLents, told, in_word, held_state, first_held, ran, end_held, end_book}

pub record LentLaws : Type 0 where
  -- a call is on the words held and the area as it was altered; it leaves the words that it gave, and the area
  pub gives : (h : Held) (area : List ℕ) (c : Call) → lent_at h area (call c) ≡ zbk h.words h.repair area c ∷ []
  pub leaves : (h : Held) (area : List ℕ) (c : Call) → let o = zbk h.words h.repair area c in
      ((held_next h area (call c)).words ≡ o.words) × ((held_next h area (call c)).repair ≡ o.repair) × ((held_next h area (call c)).area ≡ o.area)
  -- the packet area is as the last accepted step left it
  pub steps-leave : (h : Held) (area : List ℕ) (allowance : ℕ) (packets : List ℕ) → let o = zbk h.words h.repair area (step allowance packets) in
      o.answer % 256 ≡ 0 → (held_next h area (call (step allowance packets))).packets ≡ o.packets
  pub refused-leave : (h : Held) (area : List ℕ) (c : Call) → (zbk h.words h.repair area c).answer % 256 ≢ 0 → (held_next h area (call c)).packets ≡ h.packets
  pub others-leave : (h : Held) (area : List ℕ) (c : Call) → ((allowance : ℕ) (packets : List ℕ) → c ≢ step allowance packets)
      → (held_next h area (call c)).packets ≡ h.packets
  -- a power failure leaves the store's words and the area, with the words of the record given and no packets
  pub fails : (h : Held) (area : List ℕ) (p : Running)
      → held_next h area (power_fails p) ≡ record { words = h.words; repair = repair_words_of p; area = area; packets = [] }
  -- any 71 words of a repair's record whose first is 0 may be given
  pub fails-any : (h : Held) (area ps : List ℕ) (b : Book) (old : List ℕ) → is_repair ps ≡ true → get_or ps 0 0 ≡ 0
      → ((held_next h area (power_fails (repair_from ps))).repair ≡ ps) × FairEvent b old (power_fails (repair_from ps)) × Arrays (repair_from ps)
  pub fails-gives : (h : Held) (area : List ℕ) (p : Running) → lent_at h area (power_fails p) ≡ []
  -- nothing, one event, two lists
  pub lents-none : (h : Held) → lents h [] ≡ []
  pub lents-one : (h : Held) (t : Step) → lents h (t ∷ []) ≡ lent_at h t.area t.event
  pub lents-parts : (h : Held) (ts us : List Step) → lents h (ts ++ us) ≡ lents h ts ++ lents (last_held h ts) us
  pub held_none : (h : Held) → last_held h [] ≡ h
  pub held_one : (h : Held) (t : Step) → last_held h (t ∷ []) ≡ held_next h t.area t.event
  pub held-parts : (h : Held) (ts us : List Step) → last_held h (ts ++ us) ≡ last_held (last_held h ts) us
  -- they begin with the words that the set-up gave, and end where the last of them ended
  pub ends-are : (ws ps : List ℕ) (z : Sizes) (xs : List ℕ) (c : ℕ) (area : List ℕ) (steps : List Step)
      → let o = zbk_set_up ws ps z xs c in let h : Held = record { words = o.words; repair = o.repair; area = area; packets = [] } in
      (first_held ws ps z xs c area steps ≡ h) × (ran ws ps z xs c area steps ≡ lents h steps) × (end_held ws ps z xs c area steps ≡ last_held h steps)
      × (end_book ws ps z xs c area steps ≡ book_final (open_book z xs c (length area)) (events steps))
  pub state-is : (h : Held) → held_state h ≡ record { kept = record_from h.words; running = repair_from h.repair; area = h.area; packets = h.packets }
  -- from any words that tell both records, and over any bytes, with bytes as new points, calls and power failures go as the definitions' list goes on the records that the
  -- words tell: the words at the end tell the records where that ends, with the same areas, and every answer and output is its reply. So what is said of such lists (store_spec, Stepped.antt: Power,
  -- Stepped) holds of the C calls
  pub final-is : (h : Held) (steps : List Step) → is_record h.words ≡ true → is_repair h.repair ≡ true
      → All (λ t. GivenWords t.event) steps
      → All (λ t. (board point : ℕ) (helpers partners : List ℕ) → t.event ≡ call (move board point helpers partners) → point < 256) steps
      → (is_record (last_held h steps).words ≡ true) × (is_repair (last_held h steps).repair ≡ true) × (held_state (last_held h steps) ≡ final (held_state h) steps)
      × (map told (lents h steps) ≡ map in_word (replies (held_state h) steps))
  -- compared are the whole word and all bytes of the output
  pub told_is : (o : Lent) → ((told o).answer ≡ o.answer) × ((told o).output ≡ o.output)
  pub in-word-is : (r : Reply) → ((in_word r).answer ≡ r.answer.refusal + 256 * r.answer.reported) × ((in_word r).output ≡ r.output)
  -- nothing but what demand 3 asks is asked of an event that stands before an allowed list, and that words can tell the record given after a power failure
  pub none_allowed : (h : Held) (b : Book) → AllowedLents h b []
  pub more-allowed : (h : Held) (b : Book) (t : Step) (ts : List Step)
      → AllowedLents h b (t ∷ ts)
      ↔ (Asked (held_state h) b t × ((p : Running) → t.event ≡ power_fails p → Arrays p) × AllowedLents (held_next h t.area t.event) (book_next b t.event) ts)
