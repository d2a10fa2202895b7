-- Demand 3 of the archive: a list of its calls is a list of the definitions' calls, with both records in words.
-- Assumes nothing.
use Prim.Native.Nat.{ℕ, ◌+◌, ◌*◌, ◌%◌, ◌≤◌, ◌<◌}
use mathlib.Core.Path.{◌≡◌, refl, sym, ap, ap₂, subst, ◌∙◌}
use mathlib.Core.Bool.{Bool, true, false}
use mathlib.Core.List.{List, [], ◌∷◌, ◌++◌, map}
use mathlib.Core.Logic.{◌↔◌}
use native.Mathlib.Omega.{arith}
use native.Mathlib.Nat.{mod-lt}
use lib.Dec.{eqb}
use lib.ListN.{length, replicate}
use borrow.Author.Tests.{eqb-true, eq-eqb}
use Rattle.lists.specs.Tests.{pick, alls}
use Rattle.lists.specs.Lists.{All, Bytes, over}
use Rattle.lists.proofs.Pieces.{map-append}
use Rattle.lists.proofs.Tests.{alls-hold}
use Rattle.sizes.specs.declared.Sizes.{Sizes}
use Rattle.std.specs.Prelude.{Ok, Err}
use Rattle.sizes.specs.declared.Refusal.TheVariants.{Busy}
use Rattle.sizes.specs.Sizing.{legal, max_stripes}
use Rattle.sizes.specs.Refusals.{Said, first, store_order, Check}
use Rattle.sizes.proofs.Legal.{legal-facts}
use Rattle.sizes.proofs.Orders.{clear-off}
use Rattle.mbcr.specs.Share.{pointed}
use Rattle.mbcr.proofs.PointLaws.{pointed-facts}
use Rattle.board_spec.specs.Calls.{file_of}
use Rattle.store_spec.specs.Record.{Record, new_record}
use Rattle.store_spec.specs.Packets.{total, repair_packets}
use Rattle.beside_spec.specs.Running.{Running, idle}
use Rattle.beside_spec.specs.Both.{Outcome, repair_lines_both, set_up_both, repair_both, step_call}
use Rattle.beside_spec.specs.BothCalls.{store_lines, store_done}
use Rattle.beside_spec.specs.HandedLaws.{Arrays}
use Rattle.beside_spec.specs.Acting.{Call, write, lose, repair, read, edit, start, step, careful, move, State}
use Rattle.ledger_spec.specs.Ledger.{Event, call, power_fails, Book, Step}
use Rattle.ledger_spec.specs.Ledger.{Altered, FairEvent, Allowed, packets_after, lent, next, replies, final, open_book, book_next}
use Rattle.beside_spec.specs.Acting.{act, output_of, packets_of_call}
use Rattle.ledger_spec.specs.Ledger.{told as told_by}
use Rattle.ledger_spec.specs.Demand3.{Intact, Demand3, WholeStep, begun, events}
use Rattle.ledger_spec.specs.Premises.{files, IdleGiven, lent_again, bare}
use Rattle.list_spec.specs.WornLaws.{OfBytes}
use Rattle.beside_spec.proofs.AloneLaws.{alone-laws}
use Rattle.beside_spec.proofs.BothCalls.{by, act-is, done-accepted}
use Rattle.store_spec.proofs.Demand1.{demand-1}
use Rattle.ledger_spec.proofs.Demand3.{demand-3}
use Rattle.beside_spec.proofs.Beside.{set-up-done, set-up-both, both-done, accepted-both}
use Rattle.store_spec.proofs.Records.{sound-facts}
use Rattle.list_spec.proofs.Follows.{act-any}
use Rattle.beside_spec.proofs.HandedLaws.{handed-laws}
use Rattle.ledger_spec.proofs.Premises.{as_it_was, fair, again-bare, premises}
use Rattle.answer_word.specs.Answers.{word_of}
use Rattle.answer_word.proofs.Laws.{answer-laws}
use Rattle.record_words.specs.Words.{is_record, record_from, words_of}
use Rattle.record_words.specs.Laws.{Whole}
use Rattle.record_words.proofs.Laws.{word_laws}
use Rattle.repair_words.specs.RepairWords.{is_repair, repair_from, repair_words_of}
use Rattle.repair_words.proofs.RepairWords.{repair-words}
use Rattle.archive_spec.specs.Lent.{Lent, in_words, zbk_set_up, zbk}
use Rattle.archive_spec.specs.Demand3.{Held, packets_left, held_next, lent_at, lents, last_held, GivenWords, AllowedLents, Told, told, in_word, held_state, WholeInWords}
use Rattle.archive_spec.specs.Demand3.{first_held, end_held, end_book, ArchiveRun, ArchiveDemand3, ArchiveRepairs, unaltered_lents, ArchivePremises}
use Rattle.archive_spec.proofs.InWords.{both_yes, lent as lent-call, lent_back, taken, set-up-lent}

-- ---- one call

-- the low eight bits of an answer's word are its refusal
done-word : (a : Said) → a.refusal ≡ 0 → word_of a % 256 ≡ a.refusal
done-word a e = ap (λ (r : ℕ). (r + 256 * a.reported) % 256) e ∙ answer-laws.refusal_is (Ok a.reported) ∙ sym e

answer_word : (w : State) (c : Call) → word_of (act w c).answer % 256 ≡ (act w c).answer.refusal
answer_word w c =
    subst (λ (o : Outcome). word_of o.answer % 256 ≡ o.answer.refusal) (sym (act-is w c)) (go (first store_order (store_lines w.kept w.running w.area c)))
  where
    done : Outcome
    done = store_done w.kept w.running w.area c

    go : (t : Check) → let o = by w.kept w.running w.area (output_of c) (packets_of_call c) done t in word_of o.answer % 256 ≡ o.answer.refusal
    go (Ok tt) = done-word done.answer (done-accepted w.kept w.running w.area c)
    go (Err x) = answer-laws.refusal_is (Err x)

-- the words held tell the records of the definitions' state
pub record Tells (h : Held) (w : State) : Type 0 where
  pub words_are : h.words ≡ words_of w.kept
  pub repair-are : h.repair ≡ repair_words_of w.running
  pub area-is : h.area ≡ w.area
  pub packets-are : h.packets ≡ w.packets
  pub whole : Whole w.kept
  pub arrays : Arrays w.running

-- a call on the words of records is the definitions' call on the records
zbk-is : (s : Record) (p : Running) → Whole s → Arrays p → (area packets : List ℕ) (c : Call)
    → zbk (words_of s) (repair_words_of p) area c ≡ in_words (act (record { kept = s; running = p; area = area; packets = packets }) c)
zbk-is s p f a area packets c =
    lent_back (λ x q. act (record { kept = x; running = q; area = area; packets = [] }) c) s p area (output_of c) (packets_of_call c) f a
    ∙ ap in_words (act-any s p area [] packets c)

one : (h : Held) (w : State) → Tells h w → (t : Step) (c : Call) → zbk h.words h.repair t.area c ≡ in_words (act (lent w t) c)
one h w k t c =
    ap₂ (λ (x y : List ℕ). zbk x y t.area c) k.words_are k.repair-are ∙ zbk-is w.kept w.running k.whole k.arrays t.area w.packets c

-- the packet area that is kept
left-same : (before : List ℕ) (w : State) (c : Call) → packets_left before c (in_words (act w c)) ≡ packets_after before c (act w c)
left-same before w (write file) = refl
left-same before w (lose board) = refl
left-same before w (repair fresh helpers stand_ins) = refl
left-same before w (read boards output) = refl
left-same before w (edit offset bytes boards) = refl
left-same before w (start fresh helpers stand_ins) = refl
left-same before w (step allowance packets) =
    ap (λ (n : ℕ). pick (eqb n 0) (act w (step allowance packets)).packets before) (answer_word w (step allowance packets))
left-same before w (careful boards output) = refl
left-same before w (move board point helpers partners) = refl

-- a new point is a byte
abbrev pub BytePoint : Event → Type 0
BytePoint e = (board point : ℕ) (helpers partners : List ℕ) → e ≡ call (move board point helpers partners) → point < 256

pub still-whole : (w : State) (c : Call) → BytePoint (call c) → Whole w.kept → Whole (act w c).handed
still-whole w c b f = record {
  marks = handed-laws.full-marks w c f.marks;
  points = handed-laws.full-points w c ∙ f.points;
  points-bytes = handed-laws.byte-points w c (λ board point helpers partners e. b board point helpers partners (ap call e)) f.points-bytes;
}

following : (h : Held) (w : State) → Tells h w → (t : Step) (e : Event) → BytePoint e → GivenWords e → Tells (held_next h t.area e) (next (lent w t) e)
following h w k t (call c) b g =
    let o = one h w k t c in
    record {
      words_are = ap (λ (x : Lent). x.words) o;
      repair-are = ap (λ (x : Lent). x.repair) o;
      area-is = ap (λ (x : Lent). x.area) o;
      packets-are = ap₂ (λ (l : List ℕ) (x : Lent). packets_left l c x) k.packets-are o ∙ left-same w.packets (lent w t) c;
      whole = still-whole (lent w t) c b k.whole;
      arrays = handed-laws.arrays-stay (lent w t) c k.arrays;
    }
following h w k t (power_fails p) b g = record { words_are = k.words_are; repair-are = refl; area-is = refl; packets-are = refl; whole = k.whole; arrays = g }

-- ---- lists

back : (h : Held) (w : State) → Tells h w → record_from h.words ≡ w.kept
back h w k = ap record_from k.words_are ∙ word_laws.record-back w.kept k.whole

repair-back : (h : Held) (w : State) → Tells h w → repair_from h.repair ≡ w.running
repair-back h w k = ap repair_from k.repair-are ∙ repair-words.repair-back w.running k.arrays

pub state-is : (h : Held) (w : State) → Tells h w → held_state h ≡ w
state-is h w k =
    ap₂ {C = State} (λ (s : Record) (q : Running). record { kept = s; running = q; area = h.area; packets = h.packets }) (back h w k) (repair-back h w k)
    ∙ ap₂ {C = State} (λ (x y : List ℕ). record { kept = w.kept; running = w.running; area = x; packets = y }) k.area-is k.packets-are

-- what is fair is of bytes, and so is a new point
fair-of : (b : Book) (old : List ℕ) (e : Event) → FairEvent b old e → OfBytes e
fair-of b old (call c) f = premises.fair-bytes b old c f
fair-of b old (power_fails p) f = f

pub byte-point : (e : Event) → OfBytes e → BytePoint e
byte-point e f board point helpers partners q = (subst OfBytes q f).0.0

-- of each event: what it has is of bytes, and a record given is one that words can tell
abbrev pub Fit : Event → Type 0
Fit e = OfBytes e × GivenWords e

allowed : (steps : List Step) (h : Held) (w : State) (b : Book) → Tells h w → AllowedLents h b steps → Allowed w b steps
allowed [] h w b k a = tt
allowed (t ∷ ts) h w b k a = (
  subst (λ (l : List ℕ). Altered b w.kept l t.area) k.area-is (subst (λ (s : Record). Altered b s h.area t.area) (back h w k) a.0),
  subst (λ (l : List ℕ). FairEvent b l t.event) k.packets-are a.1,
  allowed ts (held_next h t.area t.event) (next (lent w t) t.event) (book_next b t.event)
      (following h w k t t.event (byte-point t.event (fair-of b h.packets t.event a.1)) a.2) a.3,
)

told_same : (h : Held) (w : State) → Tells h w → (t : Step) (e : Event) → map told (lent_at h t.area e) ≡ map in_word (told_by (lent w t) e)
told_same h w k t (call c) = ap (λ (o : Lent). told o ∷ []) (one h w k t c)
told_same h w k t (power_fails p) = refl

allowed-fit : (steps : List Step) (h : Held) (b : Book) → AllowedLents h b steps → All Fit (events steps)
allowed-fit [] h b a = tt
allowed-fit (t ∷ ts) h b a = ((fair-of b h.packets t.event a.1, a.2), allowed-fit ts (held_next h t.area t.event) (book_next b t.event) a.3)

answers : (steps : List Step) (h : Held) (w : State) → Tells h w → All Fit (events steps) → map told (lents h steps) ≡ map in_word (replies w steps)
answers [] h w k a = refl
answers (t ∷ ts) h w k a =
    map-append told (lent_at h t.area t.event) (lents (held_next h t.area t.event) ts)
    ∙ ap₂ {C = List Told} (λ (x y : List Told). x ++ y) (told_same h w k t t.event)
    (answers ts (held_next h t.area t.event) (next (lent w t) t.event) (following h w k t t.event (byte-point t.event a.0.0) a.0.1) a.1)
    ∙ sym (map-append in_word (told_by (lent w t) t.event) (replies (next (lent w t) t.event) ts))

pub ends : (steps : List Step) (h : Held) (w : State) → Tells h w → All Fit (events steps) → Tells (last_held h steps) (final w steps)
ends [] h w k a = k
ends (t ∷ ts) h w k a = ends ts (held_next h t.area t.event) (next (lent w t) t.event) (following h w k t t.event (byte-point t.event a.0.0) a.0.1) a.1

-- from any words that tell both records, whatever is altered
goes-as : (steps : List Step) (h : Held) (w : State) → Tells h w → All (λ t. GivenWords t.event) steps → All (λ t. BytePoint t.event) steps
    → Tells (last_held h steps) (final w steps) × (map told (lents h steps) ≡ map in_word (replies w steps))
goes-as [] h w k g b = (k, refl)
goes-as (t ∷ ts) h w k g b =
    let r = goes-as ts (held_next h t.area t.event) (next (lent w t) t.event) (following h w k t t.event b.0 g.0) g.1 b.1 in (
      r.0,
      map-append told (lent_at h t.area t.event) (lents (held_next h t.area t.event) ts)
          ∙ ap₂ {C = List Told} (λ (x y : List Told). x ++ y) (told_same h w k t t.event) r.1
          ∙ sym (map-append in_word (told_by (lent w t) t.event) (replies (next (lent w t) t.event) ts)),
    )

pub final-is : (h : Held) (steps : List Step) → is_record h.words ≡ true → is_repair h.repair ≡ true → All (λ t. GivenWords t.event) steps
    → All (λ t. BytePoint t.event) steps
    → (is_record (last_held h steps).words ≡ true) × (is_repair (last_held h steps).repair ≡ true) × (held_state (last_held h steps) ≡ final (held_state h) steps)
    × (map told (lents h steps) ≡ map in_word (replies (held_state h) steps))
final-is h steps a b g bytes =
    let k : Tells h (held_state h) = record {
      words_are = sym (word_laws.words_back h.words a);
      repair-are = sym (repair-words.words_back h.repair b);
      area-is = refl;
      packets-are = refl;
      whole = word_laws.is_whole h.words a;
      arrays = repair-words.is-arrays h.repair b;
    } in
    let r = goes-as steps h (held_state h) k g bytes in
    let w = final (held_state h) steps in (
      ap is_record r.0.words_are ∙ word_laws.are_words w.kept r.0.whole,
      ap is_repair r.0.repair-are ∙ repair-words.are_words w.running r.0.arrays,
      state-is (last_held h steps) w r.0,
      r.1,
    )

-- ---- the start

module _ (ws ps : List ℕ) (z : Sizes) (xs : List ℕ) (c : ℕ) where
  abbrev made : Outcome
  made = set_up_both (new_record z xs c) idle z xs c

  pub record Begins : Type 0 where
    pub accepts : made.answer.refusal ≡ 0
    twelve : length ws ≡ 12
    seventy-one : length ps ≡ 71
    words_are : (zbk_set_up ws ps z xs c).words ≡ words_of made.handed
    repair-are : (zbk_set_up ws ps z xs c).repair ≡ repair_words_of made.running

  begins : (zbk_set_up ws ps z xs c).answer ≡ 0 → Begins
  unfolding zbk_set_up
  begins e =
      let p = go (set_up_both (new_record z xs c) idle z xs c) (alls (eqb (length ws) 12 ∷ eqb (length ps) 71 ∷ [])) refl e in
      record { accepts = p.0; twelve = p.1; seventy-one = p.2; words_are = p.3; repair-are = p.4 }
    where
      given : Outcome → Bool → Lent
      given o t = set-up-lent ws ps o t (eqb (word_of o.answer) 0)

      go : (o : Outcome) (t : Bool) → alls (eqb (length ws) 12 ∷ eqb (length ps) 71 ∷ []) ≡ t → (given o t).answer ≡ 0
          → (o.answer.refusal ≡ 0) × (length ws ≡ 12) × (length ps ≡ 71)
          × ((given o t).words ≡ words_of o.handed) × ((given o t).repair ≡ repair_words_of o.running)
      go o true q e =
          let l = alls-hold (eqb (length ws) 12 ∷ eqb (length ps) 71 ∷ []) q in (
            omega (arith, e),
            eqb-true _ _ l.0,
            eqb-true _ _ l.1.0,
            rw (eq-eqb (word_of o.answer) 0 e) refl,
            rw (eq-eqb (word_of o.answer) 0 e) refl,
          )
      go o false q e = absurd (omega (arith, e))

  -- the records that an accepted set-up hands on have all their entries
  whole-made : made.answer.refusal ≡ 0 → Whole made.handed
  whole-made ok =
      let g = sound-facts (new_record z xs c) (set-up-both (new_record z xs c) idle z xs c ok) in
      let f = pointed-facts z xs (legal-facts z g.is-legal).few g.is-pointed in
      subst Whole (sym (ap (λ (o : Outcome). o.handed) (set-up-done (new_record z xs c) idle z xs c ok))) (record { marks = refl; points = f.long; points-bytes = f.bytes })

  arrays-made : made.answer.refusal ≡ 0 → Arrays made.running
  arrays-made ok = subst Arrays (sym (ap (λ (o : Outcome). o.running) (set-up-done (new_record z xs c) idle z xs c ok))) handed-laws.arrays-idle

-- ---- a step to the end

module _ (h : Held) (is : is_record h.words ≡ true) (so : is_repair h.repair ≡ true) where
  abbrev s : Record
  s = record_from h.words

  abbrev p : Running
  p = repair_from h.repair

  -- 71 words 0 tell no repair
  zeros-are : is_repair (replicate 71 0) ≡ true
  zeros-are = subst (λ (l : List ℕ). is_repair l ≡ true) repair-words.idle-words (repair-words.are_words idle handed-laws.arrays-idle)

  zeros-tell : repair_from (replicate 71 0) ≡ idle
  zeros-tell = ap repair_from (sym repair-words.idle-words) ∙ repair-words.repair-back idle handed-laws.arrays-idle

  stepped : (now packets : List ℕ) (allowance : ℕ) → zbk h.words h.repair now (step allowance packets) ≡ in_words (step_call s p now packets allowance)
  unfolding act
  stepped now packets allowance =
      sym (lent-call (λ x q. act (record { kept = x; running = q; area = now; packets = [] }) (step allowance packets)) h.words h.repair now [] packets is so)

  repaired : (now fresh helpers stand_ins : List ℕ) → zbk h.words (replicate 71 0) now (repair fresh helpers stand_ins) ≡ in_words (repair_both s idle now fresh helpers stand_ins)
  unfolding act
  repaired now fresh helpers stand_ins =
      sym (lent-call (λ x q. act (record { kept = x; running = q; area = now; packets = [] }) (repair fresh helpers stand_ins)) h.words (replicate 71 0) now [] [] is zeros-are)
      ∙ ap (λ (q : Running). in_words (repair_both s q now fresh helpers stand_ins)) zeros-tell

  whole-in-words : (now packets : List ℕ) (allowance : ℕ) (fresh helpers stand_ins : List ℕ) (left : ℕ) → WholeStep s p now packets allowance fresh helpers stand_ins left
      → WholeInWords h now packets allowance fresh helpers stand_ins left
  whole-in-words now packets allowance fresh helpers stand_ins left w =
      let a = stepped now packets allowance in
      let b = repaired now fresh helpers stand_ins in
      let zero : 0 + 256 * left ≡ 256 * left = omega arith in
      record {
        answers = ap (λ (o : Lent). o.answer) a ∙ ap word_of w.answers ∙ zero;
        would-be-taken = ap (λ (o : Lent). o.answer % 256) b ∙ done-word (repair_both s idle now fresh helpers stand_ins).answer w.would-be-taken ∙ w.would-be-taken;
        same-words = ap (λ (o : Lent). o.words) a ∙ ap words_of w.same-record ∙ sym (ap (λ (o : Lent). o.words) b);
        same-repair = ap (λ (o : Lent). o.repair) a ∙ ap repair_words_of w.same-running ∙ sym (ap (λ (o : Lent). o.repair) b);
        same_area = ap (λ (o : Lent). o.area) a ∙ w.same_area ∙ sym (ap (λ (o : Lent). o.area) b);
        same-packets = ap (λ (o : Lent). o.packets) a ∙ w.same-packets;
      }

-- ---- a list after a set-up

module _ (ws ps : List ℕ) (z : Sizes) (xs : List ℕ) (c : ℕ) (area : List ℕ) (steps : List Step) (e : (zbk_set_up ws ps z xs c).answer ≡ 0) where
  -- the definitions' store at the start, and at the end
  abbrev starts : State
  starts = begun (new_record z xs c) idle z xs c area

  abbrev last : State
  last = final starts steps

  abbrev book : Book
  book = open_book z xs c (length area)

  abbrev first-held : Held
  first-held = first_held ws ps z xs c area steps

  abbrev end-held : Held
  end-held = end_held ws ps z xs c area steps

  pub begun-so : Begins ws ps z xs c
  begun-so = begins ws ps z xs c e

  pub tells-start : Tells first-held starts
  tells-start = record {
    words_are = begun-so.words_are;
    repair-are = begun-so.repair-are;
    area-is = refl;
    packets-are = refl;
    whole = whole-made ws ps z xs c begun-so.accepts;
    arrays = arrays-made ws ps z xs c begun-so.accepts;
  }

  module _ (ok : AllowedLents first-held book steps) where
    fit : All Fit (events steps)
    fit = allowed-fit steps first-held book ok

    tells-last : Tells end-held last
    tells-last = ends steps first-held starts tells-start fit

    of-definitions : Demand3 (new_record z xs c) idle z xs c area steps
    of-definitions = demand-3 (new_record z xs c) idle z xs c area steps begun-so.accepts (allowed steps first-held starts book tells-start ok)

    intact : Intact (held_state end-held) (end_book ws ps z xs c area steps)
    intact = subst (λ (w : State). Intact w (end_book ws ps z xs c area steps)) (sym (state-is end-held last tells-last)) of-definitions.after

    are_words : is_record end-held.words ≡ true
    are_words = ap is_record tells-last.words_are ∙ word_laws.are_words last.kept tells-last.whole

    are-repair : is_repair end-held.repair ≡ true
    are-repair = ap is_repair tells-last.repair-are ∙ repair-words.are_words last.running tells-last.arrays

    runs : ArchiveRun ws ps z xs c area steps
    unfolding act
    runs = record {
      alike = answers steps first-held starts tells-start fit ∙ ap (map in_word) of-definitions.alike;
      are_words = are_words;
      are-repair = are-repair;
      after = intact;
      gives = λ now a boards output count diff up room.
          sym (lent-call (λ x q. act (record { kept = x; running = q; area = now; packets = [] }) (read boards output)) end-held.words end-held.repair now output []
          are_words are-repair)
          ∙ ap in_words (intact.gives now a boards output count diff up room)
          ∙ ap₂ (λ (l m : List ℕ). record { answer = 0; words = l; repair = m; area = now; output = over (file_of (end_book ws ps z xs c area steps).file) output; packets = [] })
          (word_laws.words_back end-held.words are_words) (repair-words.words_back end-held.repair are-repair);
      finishes = λ r q now a packets long same allowance enough.
          whole-in-words end-held are_words are-repair now packets allowance r.fresh r.helpers r.stand_ins r.left
          (intact.finishes r q now a packets long same allowance enough);
    }

pub archive-demand-3 : ArchiveDemand3
archive-demand-3 = runs

-- ---- repairs

-- a word that is a multiple of 256 is of an accepted call
pub small : (w : State) (c : Call) (v : ℕ) → word_of (act w c).answer ≡ 256 * v → (act w c).answer.refusal ≡ 0
small w c v h = sym (answer_word w c) ∙ ap (λ (n : ℕ). n % 256) h ∙ none v
  where
    none : (v : ℕ) → (256 * v) % 256 ≡ 0
    none v = omega (arith, mod-lt (256 * v) {m = 256} (omega arith))

pub none-refused : (v : ℕ) → 0 + 256 * v ≡ 256 * v
none-refused v = omega arith

-- with none running
none-busy : (s : Record) (p : Running) (area fresh helpers stand_ins : List ℕ) → (repair_both s p area fresh helpers stand_ins).answer.refusal ≡ 0 → p.running ≡ false
unfolding repair_both repair_lines_both
none-busy s p area fresh helpers stand_ins h =
    clear-off (repair_lines_both s p (length area) fresh helpers stand_ins) store_order
    (both-done (first store_order (repair_lines_both s p (length area) fresh helpers stand_ins)) s p area [] [] _ h) Busy refl

pub archive-repairs : ArchiveRepairs
unfolding act
archive-repairs ws ps area fresh helpers stand_ins v h =
    let s = record_from ws in
    let p = repair_from ps in
    let calling : Record → Running → Outcome = λ x q. act (record { kept = x; running = q; area = area; packets = [] }) (repair fresh helpers stand_ins) in
    let e = taken calling ws ps area [] [] v h in
    let is = lent-call calling ws ps area [] [] e.0 e.1 in
    let ok = small (record { kept = s; running = p; area = area; packets = [] }) (repair fresh helpers stand_ins) v (ap (λ (o : Lent). o.answer) is ∙ h) in
    let q = accepted-both s p area fresh helpers stand_ins ok in
    let m = q.1 in
    record {
      is-record = e.0;
      is-repair = e.1;
      none_runs = none-busy s p area fresh helpers stand_ins ok;
      repaired = m;
      reports = sym (ap (λ (o : Lent). o.answer) is) ∙ ap (λ (o : Outcome). word_of o.answer) q.0 ∙ ap word_of m.moved
          ∙ none-refused (total (repair_packets s area fresh helpers stand_ins));
      has = λ i k. ap (λ (l : List ℕ). Rattle.store_spec.specs.Record.held s l i) (sym (ap (λ (o : Lent). o.area) is) ∙ ap (λ (o : Outcome). o.area) q.0) ∙ m.has i k;
      repair-stays = sym (ap (λ (o : Lent). o.repair) is) ∙ ap (λ (o : Outcome). repair_words_of o.running) q.0 ∙ repair-words.words_back ps e.1;
    }

-- ---- what the premises allow

-- a set-up beside any record of a repair is accepted where the set-up alone is
both-accepted : (z : Sizes) (xs : List ℕ) (c : ℕ)
    → ((set_up_both (new_record z xs c) idle z xs c).answer.refusal ≡ 0) ↔ ((legal z ≡ true) × (pointed z xs ≡ true) × (1 ≤ c) × (c ≤ max_stripes))
both-accepted z xs c =
    let same = ap (λ (a : Said). a.refusal) (alone-laws.set-up-alone (new_record z xs c) idle z xs c).answer-is in
    let k = demand-1.set-up-accepted (new_record z xs c) z xs c in
    (λ h. k.0 (sym same ∙ h), λ h. same ∙ k.1 h)

accepted-word : (z : Sizes) (xs : List ℕ) (c : ℕ) → (set_up_both (new_record z xs c) idle z xs c).answer.refusal ≡ 0 → word_of (set_up_both (new_record z xs c) idle z xs c).answer ≡ 0
accepted-word z xs c ok = ap (λ (o : Outcome). word_of o.answer) (set-up-done (new_record z xs c) idle z xs c ok)

set-up-accepted : (ws ps : List ℕ) (z : Sizes) (xs : List ℕ) (c : ℕ)
    → ((zbk_set_up ws ps z xs c).answer ≡ 0) ↔ ((length ws ≡ 12) × (length ps ≡ 71) × (legal z ≡ true) × (pointed z xs ≡ true) × (1 ≤ c) × (c ≤ max_stripes))
unfolding zbk_set_up
set-up-accepted ws ps z xs c = (
  (λ e.
      let b = begins ws ps z xs c e in
      let h = (both-accepted z xs c).0 b.accepts in
      (b.twelve, b.seventy-one, h.0, h.1, h.2, h.3)),
  (λ h.
      ap (λ (t : Bool). (set-up-lent ws ps (set_up_both (new_record z xs c) idle z xs c) t (eqb (word_of (set_up_both (new_record z xs c) idle z xs c).answer) 0)).answer)
      (both_yes (eqb (length ws) 12) (eqb (length ps) 71) (eq-eqb _ _ h.0) (eq-eqb _ _ h.1))
      ∙ accepted-word z xs c ((both-accepted z xs c).1 (h.2, h.3, h.4, h.5))),
)

-- a record given is as it was, whatever packet area is lent
given-again : (w : State) (b : Book) (e : Event) → GivenWords e → GivenWords (lent_again w b e)
given-again w b (call (write file)) g = tt
given-again w b (call (lose board)) g = tt
given-again w b (call (repair fresh helpers stand_ins)) g = tt
given-again w b (call (read boards output)) g = tt
given-again w b (call (edit offset bytes boards)) g = tt
given-again w b (call (start fresh helpers stand_ins)) g = tt
given-again w b (call (step allowance packets)) g = tt
given-again w b (call (careful boards output)) g = tt
given-again w b (call (move board point helpers partners)) g = tt
given-again w b (power_fails p) g = g

all-allowed : (h : Held) (b : Book) (es : List Event) → All Bytes (files es) → IdleGiven es → All GivenWords es → AllowedLents h b (unaltered_lents h b es)
all-allowed h b [] f i g = tt
all-allowed h b (e ∷ es) f i g =
    let again : Event = lent_again (held_state h) b e in
    let k = fair (held_state h) b e es f i in (
      as_it_was b (record_from h.words) h.area,
      k.0,
      given-again (held_state h) b e g.0,
      all-allowed (held_next h h.area again) (book_next b again) es k.1 k.2 g.1,
    )

same-events : (h : Held) (b : Book) (es : List Event) → map bare (events (unaltered_lents h b es)) ≡ map bare es
same-events h b [] = refl
same-events h b (e ∷ es) =
    let again : Event = lent_again (held_state h) b e in
    ap₂ {C = List Event} (λ x r. x ∷ r) (again-bare (held_state h) b e) (same-events (held_next h h.area again) (book_next b again) es)

pub archive-premises : ArchivePremises
archive-premises = record {
  set-up-accepted = set-up-accepted;
  all-allowed = λ ws ps z xs c area es f i g. all-allowed (first_held ws ps z xs c area []) (open_book z xs c (length area)) es f i g;
  same-events = same-events;
}
