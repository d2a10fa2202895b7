-- A worn board costs no file: whatever is altered between calls, the two records are those that the book tells, since what a call hands on depends on the
-- lengths of the two areas alone. The proof follows a second run beside the worn one, over areas in which nothing was altered.
-- Assumes nothing.
use Prim.Native.Nat.{ℕ, ◌+◌, ◌≤◌, ◌<◌}
use mathlib.Core.Path.{◌≡◌, refl, sym, ◌∙◌, ap, subst}
use mathlib.Core.Bool.{Bool, true, false}
use mathlib.Core.List.{List, [], ◌∷◌, ◌++◌}
use mathlib.Core.Option.{Option, some, none}
use native.Mathlib.Omega.{arith}
use native.Mathlib.Nat.{min-le_right}
use lib.Dec.{leb, eqb}
use lib.ListN.{length, take, drop, length-append, length-take, length-drop, take-append-drop}
use lib.Seq.{length-take-le, take-append_seam}
use borrow.Author.Tests.{eqb-true, eqb-false}
use Rattle.lists.specs.Tests.{pick, among, different, every, below, given}
use Rattle.lists.specs.Lists.{All, Bytes, over}
use Rattle.lists.proofs.Alls.{all-imp}
use Rattle.lists.proofs.Boards.{all-below, all_among}
use Rattle.lists.proofs.Tests.{every-all, true-false}
use Rattle.sizes.specs.Refusals.{first, store_order, Check}
use Rattle.std.specs.Prelude.{Ok, Err}
use Rattle.board_spec.specs.Calls.{file_of}
use Rattle.store_spec.specs.Record.{Record, in_service, area_len}
use Rattle.store_spec.specs.Packets.{Packet, contents, repair_packets}
use Rattle.store_spec.specs.Calls.{accepted}
use Rattle.store_spec.specs.Careful.{odd, odd_report, careful_file, careful_lines}
use Rattle.beside_spec.specs.Running.{Running, packets_len}
use Rattle.beside_spec.specs.Lying.{place_of}
use Rattle.beside_spec.specs.Both.{Outcome, beside, write_lines_both, repair_lines_both, step_lines, step_last, step_on, left_of, careful_lines_both, careful_both, move_lines_both}
use Rattle.beside_spec.specs.BothCalls.{store_lines, store_done}
use Rattle.ledger_spec.specs.Demand3.{begun, events}
use Rattle.beside_spec.specs.Acting.{Call, write, lose, repair, read, edit, start, step, careful, move, State}
use Rattle.ledger_spec.specs.Ledger.{Event, call, power_fails, Book, Repairing, during, Step, Tells, Unaltered, Fair}
use Rattle.beside_spec.specs.Acting.{act, output_of, packets_of_call}
use Rattle.ledger_spec.specs.Ledger.{lent, next, book_next, enter, open_book, book_length, book_record, carried_by, final, book_final}
use Rattle.ledger_spec.specs.Premises.{files_of, files, IdleGiven}
use Rattle.store_spec.specs.CarefulLaws.{OddTold}
use Rattle.list_spec.specs.WornLaws.{OfBytes, AnyBytes, AskedWorn, WornPremises, Worn, WornClaim}
use Rattle.store_spec.proofs.Asked.{every-same}
use Rattle.beside_spec.proofs.Beside.{both-pass}
use Rattle.beside_spec.proofs.BothCalls.{by, act-is}
use Rattle.store_spec.proofs.Careful.{tells-report, tells-few, many-agree, careful-finds}
use Rattle.beside_spec.proofs.Carried.{contents-both, contents-long, R-count, R-total, place_is}
use Rattle.ledger_spec.proofs.Demand3.{Between, one, open-inv}
use Rattle.beside_spec.proofs.Beside.{set-up-both, set-up-done}
use Rattle.ledger_spec.proofs.LedgerLaws.{ledger-laws}
use Rattle.store_spec.proofs.Real.{code_laws}
use Rattle.store_spec.proofs.Records.{Sound, sound-facts, cares-pass, repair-facts}
use Rattle.ledger_spec.proofs.Step.{Inv, Going, Runs, up, lawful, both-off}
use Rattle.store_spec.proofs.Passed.{settle-pass}
use Rattle.ledger_spec.proofs.StepRead.{one_written}
use Rattle.store_spec.proofs.Those.{few-below}

-- ---- what is handed on depends on lengths

abbrev Alike : Outcome → Outcome → Type 0
Alike o q = (o.handed ≡ q.handed) × (o.running ≡ q.running)

-- a call with this packet area in place of its own
abbrev again : List ℕ → Call → Call
again l (write file) = write file
again l (lose board) = lose board
again l (repair fresh helpers stand_ins) = repair fresh helpers stand_ins
again l (read boards output) = read boards output
again l (edit offset bytes boards) = edit offset bytes boards
again l (start fresh helpers stand_ins) = start fresh helpers stand_ins
again l (step allowance packets) = step allowance l
again l (careful boards output) = careful boards output
again l (move board point helpers partners) = move board point helpers partners

module _ (s : Record) (p : Running) (a b output packets lent : List ℕ) (done other : Outcome) where
  alike-by : (t : Check) → Alike done other → Alike (by s p a output packets done t) (by s p b output lent other t)
  alike-by (Ok tt) e = e
  alike-by (Err x) e = (refl, refl)

  -- a call that hands on what it was given, refused or not
  alike-kept : (t u : Check) → Alike done (record { answer = done.answer; handed = s; running = p; area = a; output = []; packets = [] })
      → Alike other (record { answer = done.answer; handed = s; running = p; area = a; output = []; packets = [] })
      → Alike (by s p a output packets done t) (by s p b output lent other u)
  alike-kept (Ok u) (Ok v) e f = (e.0 ∙ sym f.0, e.1 ∙ sym f.1)
  alike-kept (Ok tt) (Err y) e f = e
  alike-kept (Err x) (Ok tt) e f = (sym f.0, sym f.1)
  alike-kept (Err x) (Err y) e f = (refl, refl)

module _ (s : Record) (p : Running) (a b : List ℕ) (long : length a ≡ length b) (l : List ℕ) where
  abbrev left : List ℕ → Call → Outcome
  left area c = by s p area (output_of c) (packets_of_call c) (store_done s p area c) (first store_order (store_lines s p area c))

  alike_at : (c : Call) → ((allowance : ℕ) (packets : List ℕ) → c ≡ step allowance packets → length l ≡ length packets) → Alike (left a c) (left b (again l c))
  unfolding store_lines store_done
  alike_at (write file) f =
      subst (λ (m : ℕ). Alike (left a (write file)) (by s p b [] [] (store_done s p b (write file)) (first store_order (write_lines_both s p m file)))) long
      (alike-by s p a b [] [] [] _ _ (first store_order (write_lines_both s p (length a) file)) (refl, refl))
  alike_at (lose board) f = alike-by s p a b [] [] [] _ _ (first store_order (store_lines s p a (lose board))) (refl, refl)
  alike_at (repair fresh helpers stand_ins) f =
      subst (λ (m : ℕ). Alike (left a (repair fresh helpers stand_ins))
      (by s p b [] [] (store_done s p b (repair fresh helpers stand_ins)) (first store_order (repair_lines_both s p m fresh helpers stand_ins)))) long
      (alike-by s p a b [] [] [] _ _ (first store_order (repair_lines_both s p (length a) fresh helpers stand_ins)) (refl, refl))
  alike_at (read boards output) f =
      alike-kept s p a b output [] [] _ _ (first store_order (store_lines s p a (read boards output)))
      (first store_order (store_lines s p b (read boards output))) (refl, refl) (refl, refl)
  alike_at (edit offset bytes boards) f =
      alike-kept s p a b [] [] [] _ _ (first store_order (store_lines s p a (edit offset bytes boards)))
      (first store_order (store_lines s p b (edit offset bytes boards))) (refl, refl) (refl, refl)
  alike_at (start fresh helpers stand_ins) f =
      subst (λ (m : ℕ). Alike (left a (start fresh helpers stand_ins))
      (by s p b [] [] (store_done s p b (start fresh helpers stand_ins)) (first store_order (repair_lines_both s p m fresh helpers stand_ins)))) long
      (alike-by s p a b [] [] [] _ _ (first store_order (repair_lines_both s p (length a) fresh helpers stand_ins)) (refl, refl))
  alike_at (step allowance packets) f =
      subst (λ (m : ℕ). Alike (left a (step allowance packets)) (by s p b [] l (store_done s p b (step allowance l)) (first store_order (step_lines s p m (length l))))) long
      (subst (λ (m : ℕ). Alike (left a (step allowance packets)) (by s p b [] l (store_done s p b (step allowance l)) (first store_order (step_lines s p (length a) m))))
      (sym (f allowance packets refl))
      (alike-by s p a b [] packets l _ _ (first store_order (step_lines s p (length a) (length packets))) (go (leb (left_of s p a packets) allowance))))
    where
      go : (t : Bool) → Alike (pick t (step_last s p a packets) (step_on s p a packets allowance)) (pick t (step_last s p b l) (step_on s p b l allowance))
      go true = (refl, refl)
      go false = (refl, refl)
  alike_at (careful boards output) f =
      alike-kept s p a b output [] [] _ _ (first store_order (store_lines s p a (careful boards output)))
      (first store_order (store_lines s p b (careful boards output))) (refl, refl) (refl, refl)
  alike_at (move board point helpers partners) f =
      subst
      (λ (m : ℕ). Alike (left a (move board point helpers partners))
      (by s p b [] [] (store_done s p b (move board point helpers partners)) (first store_order (move_lines_both s p m board point helpers partners)))) long
      (alike-by s p a b [] [] [] _ _ (first store_order (move_lines_both s p (length a) board point helpers partners)) (refl, refl))

same-handed : (w v : State) → w.kept ≡ v.kept → w.running ≡ v.running → length w.area ≡ length v.area → (l : List ℕ) (c : Call)
    → ((allowance : ℕ) (packets : List ℕ) → c ≡ step allowance packets → length l ≡ length packets)
    → Alike (act w c) (act v (again l c))
same-handed w v e g h l c f =
    let k = alike_at v.kept v.running w.area v.area h l c f in
    let q : act w c ≡ left v.kept v.running w.area v.area h l w.area c =
    act-is w c
    ∙ ap (λ (s : Record). by s w.running w.area (output_of c) (packets_of_call c) (store_done s w.running w.area c) (first store_order (store_lines s w.running w.area c))) e
    ∙ ap (λ (p : Running). by v.kept p w.area (output_of c) (packets_of_call c) (store_done v.kept p w.area c) (first store_order (store_lines v.kept p w.area c))) g in
    let u = act-is v (again l c) in
    (ap (λ (o : Outcome). o.handed) q ∙ k.0 ∙ sym (ap (λ (o : Outcome). o.handed) u), ap (λ (o : Outcome). o.running) q ∙ k.1 ∙ sym (ap (λ (o : Outcome). o.running) u))

-- the book sees no difference
same-entry : (b : Book) (l : List ℕ) (c : Call) → ((allowance : ℕ) (packets : List ℕ) → c ≡ step allowance packets → length l ≡ length packets)
    → enter b (again l c) ≡ enter b c
same-entry b l (write file) f = refl
same-entry b l (lose board) f = refl
same-entry b l (repair fresh helpers stand_ins) f = refl
same-entry b l (read boards output) f = refl
same-entry b l (edit offset bytes boards) f = refl
same-entry b l (start fresh helpers stand_ins) f = refl
same-entry b l (step allowance packets) f = ledger-laws.by_length b allowance l packets (f allowance packets refl)
same-entry b l (careful boards output) f = refl
same-entry b l (move board point helpers partners) f = refl

-- ---- the packet area of the second run

module _ (b : Book) (area : List ℕ) (v : Inv b area) (old new : List ℕ) where
  abbrev at : Repairing → ℕ
  at r = place_of (book_record b) (length r.fresh) (carried_by b r)

  -- of the packets carried the bytes that were left, of all others those that are lent
  abbrev mended : Repairing → Bool → List ℕ
  mended r t = pick t (take (at r) old ++ drop (at r) new) new

  abbrev long : Repairing → Bool
  long r = eqb (length new) (packets_len (book_record b) (length r.fresh))

  abbrev lying : Option Repairing → List ℕ
  lying o = during o new (λ r. mended r (long r))

  reaches : (r : Repairing) → Going b r area old → (at r ≤ length old) × (at r ≤ packets_len (book_record b) (length r.fresh))
  reaches r g =
      let s : Record = book_record b in
      let f = repair-facts s (length area) r.fresh r.helpers r.stand_ins g.pass in
      let ls = (lawful code_laws b area v).lengths in
      let R : List Packet = repair_packets s area r.fresh r.helpers r.stand_ins in
      let c : ℕ = carried_by b r in
      let e : at r ≡ length (contents (take c R)) = place_is s area r.fresh r.helpers r.stand_ins (length area) ls f c
      (omega (arith, R-count s area r.fresh r.helpers r.stand_ins (length area) ls f, g.within)) in
      let all : length (contents R) ≡ length (contents (take c R)) + length (contents (drop c R)) =
      ap (λ (l : List Packet). length (contents l)) (sym (take-append-drop c R)) ∙ ap length (contents-both (take c R) (drop c R)) ∙ length-append (contents (take c R)) (contents (drop c R)) in
      let total : length (contents R) ≡ packets_len s (length r.fresh) = contents-long R ∙ R-total s area r.fresh r.helpers r.stand_ins (length area) ls f in (
        subst (λ (m : ℕ). m ≤ length old) (sym e) (short (contents (take c R)) old g.lies),
        omega (arith, e, all, total),
      )
    where
      short : (x l : List ℕ) → take (length x) l ≡ x → length x ≤ length l
      short x l q = omega (arith, ap length q, length-take (length x) l, min-le_right (length x) (length l))

  one-repair : (r q : Repairing) → b.repairing ≡ some r → b.repairing ≡ some q → r ≡ q
  one-repair r q e f = ap (λ (o : Option Repairing). during o r (λ x. x)) (sym e ∙ f)

  mends : (o : Option Repairing) → b.repairing ≡ o → Runs b o area old → (length (lying o) ≡ length new) × Unaltered b old (lying o)
  mends none e g = (refl, λ r q l. absurd (true-false (ap given q) (ap given e)))
  mends (some r) e g = go (long r) refl
    where
      go : (t : Bool) → long r ≡ t → (length (mended r t) ≡ length new) × Unaltered b old (mended r t)
      go false h = (refl, λ q f l. absurd (eqb-false _ _ h (l ∙ ap (λ (x : Repairing). packets_len (book_record b) (length x.fresh)) (one-repair q r f e))))
      go true h =
          let k = reaches r g in
          let m : length new ≡ packets_len (book_record b) (length r.fresh) = eqb-true _ _ h in
          let t : length (take (at r) old) ≡ at r = length-take-le (at r) old k.0 in
          let a : take (at r) (take (at r) old ++ drop (at r) new) ≡ take (at r) old =
          ap (λ (n : ℕ). take n (take (at r) old ++ drop (at r) new)) (sym t) ∙ take-append_seam (take (at r) old) (drop (at r) new) in (
            length-append (take (at r) old) (drop (at r) new) ∙ omega (arith, t, length-drop (at r) new, m, k.1),
            λ q f l. subst (λ (x : Repairing). take (at x) (take (at r) old ++ drop (at r) new) ≡ take (at x) old) (one-repair r q e f) a,
          )

-- ---- after the list

module _ (b : Book) (ideal packets : List ℕ) (v : Inv b ideal) (runs : Runs b b.repairing ideal packets) (p : Running) (tells : Tells b.sizes b.repairing p) where
  gives : (now : List ℕ) → length now ≡ b.area_length → Bytes now → (boards output : List ℕ) → length boards ≡ b.sizes.k + 2 → different boards ≡ true
      → every (among b.service) boards ≡ true → book_length b ≤ length output → (n : ℕ) → OddTold (book_record b) now (file_of b.file) boards n
      → careful_both (book_record b) p now boards output ≡ beside p (accepted n (book_record b) now (over (file_of b.file) output))
  unfolding careful_both careful_lines_both careful_lines
  gives now m bn boards output c d u r n t =
      let w = one_written code_laws b ideal v boards (omega (arith, c)) u in
      let low : All (λ i. i < b.sizes.n) boards = all-imp (λ i. among b.service i ≡ true) (λ i. i < b.sizes.n)
      (λ i e. all_among (λ x. x < b.sizes.n) b.service i v.serving e) boards (every-all (among b.service) boards u) in
      let l : below b.sizes.n boards ≡ true = all-below b.sizes.n boards low in
      let g : Sound (book_record b) = sound-facts (book_record b) v.is-sound in
      let area-is : length now ≡ area_len (book_record b) = m ∙ v.room w in
      let q = many-agree (book_record b) now (file_of b.file) b.sizes.k boards c (tells-few (book_record b) now (file_of b.file) boards d n t) in
      let file : careful_file (book_record b) now boards ≡ some (file_of b.file) =
      careful-finds (book_record b) now g area-is boards (c, l, d) bn (file_of b.file) refl v.bytes q in
      let clear : first store_order (careful_lines (book_record b) now boards output) ≡ (Ok tt) = cares-pass (book_record b) now boards output (record {
        is-sound = v.is-sound;
        area-is = area-is;
        is-written = w;
        count = c;
        named-below = l;
        all-different = d;
        all_up = every-same (in_service (book_record b)) (among b.service) boards (up code_laws b ideal v) ∙ u;
      }) (subst (λ (x : ℕ). x ≤ b.sizes.n) c (few-below b.sizes.n boards low d)) r (ap given file) in
      let pass : first store_order (careful_lines_both (book_record b) p now boards output) ≡ (Ok tt) =
      both-pass (book_record b) p (drop 1 (careful_lines (book_record b) now boards output)) (both-off code_laws b ideal v packets runs p tells) clear in
      settle-pass _ _ _ pass
      ∙ ap (λ (o : Option (List ℕ)). beside p (accepted (odd_report (odd (book_record b) now (file_of o) boards)) (book_record b) now (over (file_of o) output))) file
      ∙ ap (λ (x : ℕ). beside p (accepted x (book_record b) now (over (file_of b.file) output))) (sym (tells-report (book_record b) now (file_of b.file) boards d n t))

worn-at : (b : Book) (ideal packets : List ℕ) (v : Inv b ideal) (runs : Runs b b.repairing ideal packets) (w : State)
    → w.kept ≡ book_record b → Tells b.sizes b.repairing w.running → Worn w b
worn-at b ideal packets v runs w e tells = record {
  same-record = e;
  same-running = tells;
  gives = λ now m bn boards output c d u r. subst
      (λ (s : Record). (n : ℕ) → OddTold s now (file_of b.file) boards n
      → careful_both s w.running now boards output ≡ beside w.running (accepted n s now (over (file_of b.file) output)))
      (sym e)
      (gives b ideal packets v runs w.running tells now m bn boards output c d u r);
}

-- ---- the list

-- a worn state, and the second run's beside it
record Beside (w i : State) (b : Book) : Type 0 where
  same_kept : w.kept ≡ i.kept
  same_beside : w.running ≡ i.running
  between : Between i b

-- what is of bytes is fair
fair : (b : Book) (old l : List ℕ) (c : Call) → All Bytes (files_of c) → Unaltered b old l → Fair b old (again l c)
fair b old l (write file) h k = h.0
fair b old l (lose board) h k = tt
fair b old l (repair fresh helpers stand_ins) h k = tt
fair b old l (read boards output) h k = tt
fair b old l (edit offset bytes boards) h k = h.0
fair b old l (start fresh helpers stand_ins) h k = tt
fair b old l (step allowance packets) h k = k
fair b old l (careful boards output) h k = tt
fair b old l (move board point helpers partners) h k = h.0.0

abbrev lent_to : Call → List ℕ
lent_to c = packets_of_call c

one-worn : (w i : State) (b : Book) (e : Event) → length w.area ≡ b.area_length → OfBytes e → Beside w i b → (j : State) × Beside (next w e) j (book_next b e)
one-worn w i b (power_fails p) m ok h =
    (next i (power_fails p), record { same_kept = h.same_kept; same_beside = refl; between = (one code_laws i b h.between (power_fails p) ok).1 })
one-worn w i b (call c) m ok h =
    let v = h.between.inv in
    let k = mends b i.area v i.packets (lent_to c) b.repairing refl h.between.runs in
    let l : List ℕ = lying b i.area v i.packets (lent_to c) b.repairing in
    let f : (allowance : ℕ) (packets : List ℕ) → c ≡ step allowance packets → length l ≡ length packets = λ allowance packets q. k.0 ∙ ap (λ (x : Call). length (packets_of_call x)) q in
    let a = same-handed w i h.same_kept h.same_beside (m ∙ sym v.as_long) l c f in
    let n = (one code_laws i b h.between (call (again l c)) (fair b i.packets l c ok k.1)).1 in (
      next i (call (again l c)),
      record {
        same_kept = a.0;
        same_beside = a.1;
        between = subst (λ (x : Book). Between (next i (call (again l c))) x) (ap (λ (y : Rattle.ledger_spec.specs.Ledger.Entry). y.book) (same-entry b l c f)) n;
      },
    )

stays : (b : Book) (e : Event) → (book_next b e).area_length ≡ b.area_length
stays b (call c) = (ledger-laws.stay b c).2
stays b (power_fails p) = refl

run : (steps : List Step) (w i : State) (b : Book) → Beside w i b → AnyBytes b.area_length steps → Worn (final w steps) (book_final b (events steps))
run [] w i b h a =
    worn-at b i.area i.packets h.between.inv h.between.runs w (h.same_kept ∙ h.between.same-record)
    (subst (λ (p : Running). Tells b.sizes b.repairing p) (sym h.same_beside) h.between.same-running)
run (t ∷ ts) w i b h a =
    let n = one-worn (lent w t) i b t.event a.0 a.1 (record { same_kept = h.same_kept; same_beside = h.same_beside; between = h.between }) in
    run ts (next (lent w t) t.event) n.0 (book_next b t.event) n.1 (subst (λ (m : ℕ). AnyBytes m ts) (sym (stays b t.event)) a.2)

-- ---- what is asked

of-bytes : (m : ℕ) (area : List ℕ) (e : Event) → AskedWorn m (record { area = area; event = e }) → OfBytes e
of-bytes m area (call (write file)) a = (a.writes_bytes file refl, tt)
of-bytes m area (call (lose board)) a = tt
of-bytes m area (call (repair fresh helpers stand_ins)) a = tt
of-bytes m area (call (read boards output)) a = tt
of-bytes m area (call (edit offset bytes boards)) a = (a.edits-bytes offset bytes boards refl, tt)
of-bytes m area (call (start fresh helpers stand_ins)) a = tt
of-bytes m area (call (step allowance packets)) a = tt
of-bytes m area (call (careful boards output)) a = tt
of-bytes m area (call (move board point helpers partners)) a = ((a.moves-byte board point helpers partners refl, tt), tt)
of-bytes m area (power_fails p) a = a.idle-given p refl

asked : (m : ℕ) (t : Step) → length t.area ≡ m → OfBytes t.event → AskedWorn m t
asked m t l h = record {
  as_long = l;
  writes_bytes = λ file e. (subst OfBytes e h).0;
  edits-bytes = λ offset bytes boards e. (subst OfBytes e h).0;
  moves-byte = λ board point helpers partners e. (subst OfBytes e h).0.0;
  idle-given = λ given e. subst OfBytes e h;
}

its-bytes : (e : Event) (es : List Event) → All Bytes (files (e ∷ es)) → IdleGiven (e ∷ es) → OfBytes e × All Bytes (files es) × IdleGiven es
its-bytes (call (write file)) es h i = ((h.0, tt), h.1, i)
its-bytes (call (lose board)) es h i = (tt, h, i)
its-bytes (call (repair fresh helpers stand_ins)) es h i = (tt, h, i)
its-bytes (call (read boards output)) es h i = (tt, h, i)
its-bytes (call (edit offset bytes boards)) es h i = ((h.0, tt), h.1, i)
its-bytes (call (start fresh helpers stand_ins)) es h i = (tt, h, i)
its-bytes (call (step allowance packets)) es h i = (tt, h, i)
its-bytes (call (careful boards output)) es h i = (tt, h, i)
its-bytes (call (move board point helpers partners)) es h i = ((h.0, tt), h.1, i)
its-bytes (power_fails p) es h i = (i.0, h, i.1)

all_asked : (m : ℕ) (ts : List Step) → All (λ t. length t.area ≡ m) ts → All Bytes (files (events ts)) → IdleGiven (events ts) → AnyBytes m ts
all_asked m [] l h i = tt
all_asked m (t ∷ ts) l h i = let p = its-bytes t.event (events ts) h i in (l.0, p.0, all_asked m ts l.1 p.1 p.2)

pub worn-premises : WornPremises
worn-premises = record {
  none-asked = λ m. tt;
  all_asked = all_asked;
  more-asked = λ m t ts. ((λ a. (asked m t a.0 a.1, a.2)), (λ a. (a.0.as_long, of-bytes m t.area t.event a.0, a.1)));
}

pub worn : WornClaim
worn old p z xs c area steps accepted ok =
    let d = set-up-done old p z xs c accepted in
    run steps (begun old p z xs c area) (begun old p z xs c area) (open_book z xs c (length area)) (record {
      same_kept = refl;
      same_beside = refl;
      between = record {
        same-record = ap (λ (o : Outcome). o.handed) d;
        same-running = ap (λ (o : Outcome). o.running.running) d;
        inv = open-inv z xs c area (set-up-both old p z xs c accepted);
        runs = tt;
      };
    }) ok
