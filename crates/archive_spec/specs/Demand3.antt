-- Demand 3 of the archive: what holds of any list of its store calls, each on the words and the areas that the last one left, bytes of boards out of service altered
-- between them, and of power failures between them (request A.8); and of every accepted repair. proofs/Demand3.antt has `archive-demand-3 : ArchiveDemand3`,
-- `archive-repairs` and `archive-premises`.
-- Assumes nothing.
use Rattle.std.specs.Prelude.{◌≡◌, true, false, List, [], ◌∷◌, ◌++◌, map, ◌↔◌, ℕ, ◌*◌, ◌%◌, ◌≤◌, eqb, length, replicate}
use Rattle.std.proofs.Math.Option.{some}
use Rattle.lists.specs.Tests.{pick, every, among, different}
use Rattle.lists.specs.Lists.{All, Bytes, over}
use Rattle.sizes.specs.declared.Sizes.{Sizes}
use Rattle.sizes.specs.Sizing.{legal, max_stripes}
use Rattle.mbcr.specs.Share.{pointed}
use Rattle.board_spec.specs.Calls.{file_of}
use Rattle.store_spec.specs.Record.{held}
use Rattle.store_spec.specs.Packets.{contents, total, repair_packets, fresh_share}
use Rattle.beside_spec.specs.Running.{packets_len}
use Rattle.beside_spec.specs.HandedLaws.{Arrays}
use Rattle.beside_spec.specs.Acting.{Call, write, lose, repair, read, edit, start, step, careful, move, State}
use Rattle.ledger_spec.specs.Ledger.{Event, call, power_fails, Reply, Book, Repairing, Step}
use Rattle.ledger_spec.specs.Ledger.{Altered, Unaltered, FairEvent, open_book, book_length, book_next, book_replies, book_final}
use Rattle.ledger_spec.specs.Demand3.{Intact, events}
use Rattle.store_spec.specs.RepairLaws.{Repaired}
use Rattle.ledger_spec.specs.Premises.{files, IdleGiven, lent_again, bare}
use Rattle.answer_word.specs.Answers.{word_of}
use Rattle.record_words.specs.Words.{is_record, record_from}
use Rattle.repair_words.specs.RepairWords.{is_repair, repair_from, repair_words_of}
use Rattle.archive_spec.specs.Lent.{Lent, zbk_set_up, zbk}

-- ---- lists

-- what is held between calls: words, the repair's words, the area, and the packet area as the last accepted step left it
pub record Held : Type 0 where
  pub words : List ℕ
  pub repair : List ℕ
  pub area : List ℕ
  pub packets : List ℕ

-- the packet area after a call
abbrev pub packets_left : List ℕ → Call → Lent → List ℕ
packets_left before (write file) o = before
packets_left before (lose board) o = before
packets_left before (repair fresh helpers stand_ins) o = before
packets_left before (read boards output) o = before
packets_left before (edit offset bytes boards) o = before
packets_left before (start fresh helpers stand_ins) o = before
packets_left before (step allowance packets) o = pick (eqb (o.answer % 256) 0) o.packets before
packets_left before (careful boards output) o = before
packets_left before (move board point helpers partners) o = before

-- a call on the words held, and the area as it was altered before it; after a power failure the words of the record given are held, and no packets
abbrev pub held_next : Held → List ℕ → Event → Held
held_next h area (call c) =
    let o = zbk h.words h.repair area c in
    record { words = o.words; repair = o.repair; area = o.area; packets = packets_left h.packets c o }
held_next h area (power_fails p) = record { words = h.words; repair = repair_words_of p; area = area; packets = [] }

-- what a call gives; a power failure gives nothing
abbrev pub lent_at : Held → List ℕ → Event → List Lent
lent_at h area (call c) = zbk h.words h.repair area c ∷ []
lent_at h area (power_fails p) = []

-- the calls one after another, and what is held after them
abbrev pub lents : Held → List Step → List Lent
lents h [] = []
lents h (t ∷ ts) = lent_at h t.area t.event ++ lents (held_next h t.area t.event) ts

abbrev pub last_held : Held → List Step → Held
last_held h [] = h
last_held h (t ∷ ts) = last_held (held_next h t.area t.event) ts

-- a record that words can tell is given after a power failure
abbrev pub GivenWords : Event → Type 0
GivenWords (call c) = Unit
GivenWords (power_fails p) = Arrays p

-- each area is the one that the last call left, altered at most in bytes of boards out of service by the book, in the record that the words tell; files, bytes of
-- an edit, new points, packet areas and records given are as demand 3 asks
abbrev pub AllowedLents : Held → Book → List Step → Type 0
AllowedLents h b [] = Unit
AllowedLents h b (t ∷ ts) =
    Altered b (record_from h.words) h.area t.area × FairEvent b h.packets t.event × GivenWords t.event
    × AllowedLents (held_next h t.area t.event) (book_next b t.event) ts

-- an answer word, and all bytes of the output after the call
pub record Told : Type 0 where
  pub answer : ℕ
  pub output : List ℕ

abbrev pub told : Lent → Told
told o = record { answer = o.answer; output = o.output }

abbrev pub in_word : Reply → Told
in_word r = record { answer = word_of r.answer; output = r.output }

-- the records that the words held tell, with both areas
abbrev pub held_state : Held → State
held_state h = record { kept = record_from h.words; running = repair_from h.repair; area = h.area; packets = h.packets }

-- ---- the claim

-- A step that leaves what the whole repair by these lists, with none running, would leave: words, repair's words and area; it answers the packets that were left, and
-- the packet area then has just the whole repair's packets.
pub record WholeInWords (h : Held) (now packets : List ℕ) (allowance : ℕ) (fresh helpers stand_ins : List ℕ) (left : ℕ) : Type 0 where
  pub answers : (zbk h.words h.repair now (step allowance packets)).answer ≡ 256 * left
  pub would-be-taken : (zbk h.words (replicate 71 0) now (repair fresh helpers stand_ins)).answer % 256 ≡ 0
  pub same-words : (zbk h.words h.repair now (step allowance packets)).words ≡ (zbk h.words (replicate 71 0) now (repair fresh helpers stand_ins)).words
  pub same-repair : (zbk h.words h.repair now (step allowance packets)).repair ≡ (zbk h.words (replicate 71 0) now (repair fresh helpers stand_ins)).repair
  pub same_area : (zbk h.words h.repair now (step allowance packets)).area ≡ (zbk h.words (replicate 71 0) now (repair fresh helpers stand_ins)).area
  pub same-packets : (zbk h.words h.repair now (step allowance packets)).packets ≡ contents (repair_packets (record_from h.words) now fresh helpers stand_ins)

-- a list of calls after a set-up: the words that it gave, what the calls give, and where they end: what is held, and the ledger's book
module _ (ws ps : List ℕ) (z : Sizes) (xs : List ℕ) (c : ℕ) (area : List ℕ) (steps : List Step) where
  abbrev pub first_held : Held
  first_held = record { words = (zbk_set_up ws ps z xs c).words; repair = (zbk_set_up ws ps z xs c).repair; area = area; packets = [] }

  abbrev pub ran : List Lent
  ran = lents first_held steps

  abbrev pub end_held : Held
  end_held = last_held first_held steps

  abbrev pub end_book : Book
  end_book = book_final (open_book z xs c (length area)) (events steps)

  -- Of these calls every answer is the word of the ledger's reply, and every output the ledger's; the last words are a record's and a repair's, and demand 3's ending
  -- holds of the records that they tell and of the last areas.
  pub record ArchiveRun : Type 0 where
    pub alike : map told ran ≡ map in_word (book_replies (open_book z xs c (length area)) (events steps))
    pub are_words : is_record end_held.words ≡ true
    pub are-repair : is_repair end_held.repair ≡ true
    pub after : Intact (held_state end_held) end_book
    -- "a read of any k different boards in service, with output long enough, is accepted and gives exactly the last file accepted"
    pub gives : (now : List ℕ) → Altered end_book (record_from end_held.words) end_held.area now
        → (boards output : List ℕ)
        → length boards ≡ end_book.sizes.k
        → different boards ≡ true
        → every (among end_book.service) boards ≡ true
        → book_length end_book ≤ length output
        → zbk end_held.words end_held.repair now (read boards output)
        ≡ record { answer = 0; words = end_held.words; repair = end_held.repair; area = now; output = over (file_of end_book.file) output; packets = [] }
    -- "Stepped to its end .. it leaves what the whole repair, with none running, would leave in place of the last step"
    pub finishes : (r : Repairing) → end_book.repairing ≡ some r
        → (now : List ℕ) → Altered end_book (record_from end_held.words) end_held.area now
        → (packets : List ℕ) → length packets ≡ packets_len (record_from end_held.words) (length r.fresh) → Unaltered end_book end_held.packets packets
        → (allowance : ℕ) → r.left ≤ allowance
        → WholeInWords end_held now packets allowance r.fresh r.helpers r.stand_ins r.left

abbrev pub ArchiveDemand3 : Type 0
ArchiveDemand3 =
    (ws ps : List ℕ) (z : Sizes) (xs : List ℕ) (c : ℕ) (area : List ℕ) (steps : List Step)
    → (zbk_set_up ws ps z xs c).answer ≡ 0
    → AllowedLents (first_held ws ps z xs c area steps) (open_book z xs c (length area)) steps
    → ArchiveRun ws ps z xs c area steps

-- An accepted repair, over any words and any area: it is one of the definitions', over the record that the words tell, with no repair running; it reports the bytes
-- moved, fresh boards hold what the packets make, and the repair's words stay.
pub record ArchiveRepaired (ws ps area fresh helpers stand_ins : List ℕ) : Type 0 where
  pub is-record : is_record ws ≡ true
  pub is-repair : is_repair ps ≡ true
  pub none_runs : (repair_from ps).running ≡ false
  pub repaired : Repaired (record_from ws) area fresh helpers stand_ins
  pub reports : (zbk ws ps area (repair fresh helpers stand_ins)).answer ≡ 256 * total (repair_packets (record_from ws) area fresh helpers stand_ins)
  pub has : (i : ℕ) → among fresh i ≡ true
      → held (record_from ws) (zbk ws ps area (repair fresh helpers stand_ins)).area i ≡ fresh_share (record_from ws) area fresh helpers stand_ins i
  pub repair-stays : (zbk ws ps area (repair fresh helpers stand_ins)).repair ≡ ps

abbrev pub ArchiveRepairs : Type 0
ArchiveRepairs =
    (ws ps area fresh helpers stand_ins : List ℕ) (v : ℕ) → (zbk ws ps area (repair fresh helpers stand_ins)).answer ≡ 256 * v → ArchiveRepaired ws ps area fresh helpers stand_ins

-- ---- the premises can be met

-- the steps of these events with nothing altered between them
abbrev pub unaltered_lents : Held → Book → List Event → List Step
unaltered_lents h b [] = []
unaltered_lents h b (e ∷ es) =
    let again = lent_again (held_state h) b e in
    record { area = h.area; event = again } ∷ unaltered_lents (held_next h h.area again) (book_next b again) es

-- a set-up is accepted over any twelve and any 71 words exactly where sizes and capacity are legal and the points are taken, and every list of calls whose files and
-- new points are of bytes is allowed, with nothing altered
pub record ArchivePremises : Type 0 where
  pub set-up-accepted : (ws ps : List ℕ) (z : Sizes) (xs : List ℕ) (c : ℕ)
      → ((zbk_set_up ws ps z xs c).answer ≡ 0) ↔ ((length ws ≡ 12) × (length ps ≡ 71) × (legal z ≡ true) × (pointed z xs ≡ true) × (1 ≤ c) × (c ≤ max_stripes))
  pub all-allowed : (ws ps : List ℕ) (z : Sizes) (xs : List ℕ) (c : ℕ) (area : List ℕ) (es : List Event) → All Bytes (files es) → IdleGiven es → All GivenWords es
      → let h = first_held ws ps z xs c area [] in AllowedLents h (open_book z xs c (length area)) (unaltered_lents h (open_book z xs c (length area)) es)
  pub same-events : (h : Held) (b : Book) (es : List Event) → map bare (events (unaltered_lents h b es)) ≡ map bare es
