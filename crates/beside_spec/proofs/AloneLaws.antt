-- Calls with a record of a repair beside are the calls alone.
-- Assumes nothing.
use Prim.Native.Nat.{ℕ, ◌+◌, ◌-◌, ◌*◌, ◌≤◌, ◌<◌}
use mathlib.Core.Path.{◌≡◌, refl, sym, ◌∙◌, ap, ap₂, subst}
use mathlib.Core.Bool.{Bool, true, false, not}
use mathlib.Core.Logic.{◌↔◌}
use mathlib.Core.List.{List, [], ◌∷◌, ◌++◌}
use native.Mathlib.Nat.{mul-le-mul_left}
use native.Mathlib.Omega.{arith}
use lib.Dec.{eqb}
use lib.ListN.{length, drop}
use borrow.Author.Tests.{eqb-true, eq-eqb, ne_eqb, leb-true}
use Rattle.lists.specs.Tests.{pick, every, alls}
use Rattle.lists.proofs.Tests.{true-false, every-all, alls-hold, not-no}
use Rattle.sizes.specs.declared.Sizes.{Sizes}
use Rattle.std.specs.Prelude.{Ok, Err}
use Rattle.sizes.specs.declared.Refusal.{Refusal}
use Rattle.sizes.specs.declared.Refusal.TheVariants.{Size, Busy, Count, Down}
use Rattle.sizes.specs.Refusals.{number, Said, said, Line, ◌when◌, applies_in, first, store_order, Check}
use Rattle.sizes.proofs.Laws.{numbers-differ, number-low}
use Rattle.sizes.proofs.Legal.{Legal, legal-facts}
use Rattle.sizes.proofs.Orders.{stands, clear-off, first-same}
use Rattle.sizes.proofs.Lines.{first-clear}
use Rattle.store_spec.specs.Record.{Record, in_service, sound, new_record, area_len}
use Rattle.store_spec.specs.Calls.{StoreOutcome, accepted, refused, settle, record_line, write_lines, lose_lines, list_lines, repair_lines, read_lines, write_done, lose_done, repair_done, read_done}
use Rattle.store_spec.specs.Calls.{set_up_call, write_call, lose_call, repair_call, read_call}
use Rattle.store_spec.specs.Edit.{edit_lines, edit_done, edit_call}
use Rattle.store_spec.specs.Careful.{careful_lines, careful_done, careful_call}
use Rattle.beside_spec.specs.Running.{Running, idle, running_by, fresh_of, helpers_of, stand_ins_of, sound_beside}
use Rattle.beside_spec.specs.Both.{Outcome, beside, both_line, write_lines_both, lose_lines_both, repair_lines_both, read_lines_both, edit_lines_both, careful_lines_both, lost_beside}
use Rattle.beside_spec.specs.Both.{set_up_both, write_both, lose_both, repair_both, read_both, edit_both, careful_both, start_call, move_lines_both, move_both}
use Rattle.beside_spec.specs.AloneLaws.{AsAlone, StartedBy, AloneLaws}
use Rattle.store_spec.specs.Move.{move_lines, move_done, move_call}
use Rattle.beside_spec.proofs.Beside.{alone-busy, fresh-back, helpers-back, stand-ins-back, sound-beside, lists-taken, lists-pass}
use Rattle.store_spec.proofs.Records.{sound-facts, count_tests}
use Rattle.store_spec.proofs.Demand1.{demand-1}
use Rattle.beside_spec.proofs.BothCalls.{both-calls}
use Rattle.beside_spec.proofs.Beside.{both-done}
use Rattle.store_spec.proofs.Passed.{settle-pass}

-- ---- the lines

-- SIZE by both records is SIZE by the store's where the other is sound beside it
size-alone : (s : Record) (p : Running) → sound_beside s p ≡ true → both_line s p ≡ record_line s
size-alone s p e = ap (λ (b : Bool). Size when not (alls (sound s ∷ b ∷ []))) e ∙ go (sound s)
  where
    go : (b : Bool) → (Size when not (alls (b ∷ true ∷ []))) ≡ (Size when not b)
    go true = refl
    go false = refl

same_first : (s : Record) (p : Running) → sound_beside s p ≡ true → (rest : List Line) → first store_order (both_line s p ∷ rest) ≡ first store_order (record_line s ∷ rest)
same_first s p e rest = ap (λ (l : Line). first store_order (l ∷ rest)) (size-alone s p e)

-- a line of BUSY that does not hold, before lines without one
not-busy : (l : Line) (rest : List Line) → applies_in rest Busy ≡ false → first store_order (l ∷ (Busy when false ∷ rest)) ≡ first store_order (l ∷ rest)
not-busy l rest n = first-same (l ∷ (Busy when false ∷ rest)) (l ∷ rest) store_order (λ x s f. go x (eqb (number l.refusal) (number x)) (eqb (number Busy) (number x)) refl)
  where
    go : (x : Refusal) (t u : Bool) → eqb (number Busy) (number x) ≡ u → pick t l.applies (pick u false (applies_in rest x)) ≡ pick t l.applies (applies_in rest x)
    go x true u e = refl
    go x false true e = sym (ap (applies_in rest) (sym (numbers-differ Busy x (eqb-true _ _ e))) ∙ n)
    go x false false e = refl

pub idle-sound : (s : Record) (p : Running) → p.running ≡ false → sound_beside s p ≡ true
idle-sound s p e = (both-calls.beside-is s p).1 (λ h. absurd (true-false h e))

idle-first : (s : Record) (p : Running) (rest : List Line) → p.running ≡ false → applies_in rest Busy ≡ false
    → first store_order (both_line s p ∷ (Busy when p.running ∷ rest)) ≡ first store_order (record_line s ∷ rest)
idle-first s p rest e n =
    ap (λ (b : Bool). first store_order (both_line s p ∷ (Busy when b ∷ rest))) e
    ∙ not-busy (both_line s p) rest n
    ∙ same_first s p (idle-sound s p e) rest

-- ---- the outcomes

module _ (s : Record) (p q : Running) (area output : List ℕ) (done : StoreOutcome) where
  abbrev both : Check → Outcome
  both t = settle t (λ x. record { answer = said (Err x); handed = s; running = p; area = area; output = output; packets = [] }) (beside q done)

  abbrev sole : Check → StoreOutcome
  sole t = settle t (refused s area output) done

  -- what is handed on: that of the work where it is accepted
  same_outcome : done.answer.refusal ≡ 0 → (t : Check) → AsAlone (pick (eqb (sole t).answer.refusal 0) q p) (sole t) (both t)
  same_outcome z (Ok tt) = record {
    answer-is = refl;
    handed-is = refl;
    running-is = sym (ap (λ (n : ℕ). pick (eqb n 0) q p) z);
    area-is = refl;
    output-is = refl;
    packets-none = refl;
  }
  same_outcome z (Err x) = record {
    answer-is = refl;
    handed-is = refl;
    running-is = sym (ap (λ (b : Bool). pick b q p) (ne_eqb (number x) 0 (λ e. omega (arith, number-low x, e))));
    area-is = refl;
    output-is = refl;
    packets-none = refl;
  }

-- where the same record is handed on either way
same-either : (s : Record) (p : Running) (area output : List ℕ) (done : StoreOutcome) (t : Check) → AsAlone p (sole s p p area output done t) (both s p p area output done t)
same-either s p area output done (Ok tt) = record { answer-is = refl; handed-is = refl; running-is = refl; area-is = refl; output-is = refl; packets-none = refl }
same-either s p area output done (Err x) = record { answer-is = refl; handed-is = refl; running-is = refl; area-is = refl; output-is = refl; packets-none = refl }

-- such an outcome, whole
pub alone-is : (p : Running) (a : StoreOutcome) (o : Outcome) → AsAlone p a o → o ≡ beside p a
alone-is p a o h =
    ap₂ {C = Outcome} (λ (x : Said) (s : Record). record { answer = x; handed = s; running = o.running; area = o.area; output = o.output; packets = o.packets })
    h.answer-is h.handed-is
    ∙ ap₂ {C = Outcome} (λ (q : Running) (l : List ℕ). record { answer = a.answer; handed = a.handed; running = q; area = l; output = o.output; packets = o.packets })
    h.running-is h.area-is
    ∙ ap₂ {C = Outcome} (λ (l m : List ℕ). record { answer = a.answer; handed = a.handed; running = p; area = a.area; output = l; packets = m })
    h.output-is h.packets-none

-- ---- the calls

set-up-alone : (old : Record) (p : Running) (z : Sizes) (xs : List ℕ) (c : ℕ)
    → AsAlone (pick (eqb (set_up_call old z xs c).answer.refusal 0) idle p) (set_up_call old z xs c) (set_up_both old p z xs c)
unfolding set_up_call set_up_both
set-up-alone old p z xs c = same_outcome old p idle [] [] (accepted 0 (new_record z xs c) [] []) refl (first store_order (record_line (new_record z xs c) ∷ []))

read-alone : (s : Record) (p : Running) (area boards output : List ℕ) → sound_beside s p ≡ true
    → AsAlone p (read_call s area boards output) (read_both s p area boards output)
unfolding read_call read_both read_lines_both read_lines
read-alone s p area boards output e =
    subst (λ (t : Check). AsAlone p (sole s p p area output done (first store_order (read_lines s area boards output))) (both s p p area output done t))
    (sym (same_first s p e (drop 1 (read_lines s area boards output)))) (same-either s p area output done (first store_order (read_lines s area boards output)))
  where
    done : StoreOutcome
    done = read_done s area boards output

careful-alone : (s : Record) (p : Running) (area boards output : List ℕ) → sound_beside s p ≡ true
    → AsAlone p (careful_call s area boards output) (careful_both s p area boards output)
unfolding careful_call careful_both careful_lines_both careful_lines
careful-alone s p area boards output e =
    subst (λ (t : Check). AsAlone p (sole s p p area output done (first store_order (careful_lines s area boards output))) (both s p p area output done t))
    (sym (same_first s p e (drop 1 (careful_lines s area boards output)))) (same-either s p area output done (first store_order (careful_lines s area boards output)))
  where
    done : StoreOutcome
    done = careful_done s area boards output

lose-alone : (s : Record) (p : Running) (area : List ℕ) (board : ℕ) → sound_beside s p ≡ true
    → AsAlone (pick (eqb (lose_call s area board).answer.refusal 0) (lost_beside s p board) p) (lose_call s area board) (lose_both s p area board)
unfolding lose_call lose_both lose_lines_both lose_lines
lose-alone s p area board e =
    let k : Check = first store_order (lose_lines s board) in
    let done : StoreOutcome = lose_done s area board in
    let q : Running = lost_beside s p board in
    subst (λ (t : Check). AsAlone (pick (eqb (sole s p q area [] done k).answer.refusal 0) q p) (sole s p q area [] done k) (both s p q area [] done t))
    (sym (same_first s p e (drop 1 (lose_lines s board)))) (same_outcome s p q area [] done refl k)

write_alone : (s : Record) (p : Running) (area file : List ℕ) → p.running ≡ false → AsAlone p (write_call s area file) (write_both s p area file)
unfolding write_call write_both write_lines_both write_lines
write_alone s p area file e =
    let k : Check = first store_order (write_lines s (length area) file) in
    let done : StoreOutcome = write_done s area file in
    subst (λ (t : Check). AsAlone p (sole s p p area [] done k) (both s p p area [] done t))
    (sym (idle-first s p (drop 1 (write_lines s (length area) file)) e refl)) (same-either s p area [] done k)

repair-alone : (s : Record) (p : Running) (area fresh helpers stand_ins : List ℕ) → p.running ≡ false
    → AsAlone p (repair_call s area fresh helpers stand_ins) (repair_both s p area fresh helpers stand_ins)
unfolding repair_call repair_both repair_lines_both repair_lines list_lines
repair-alone s p area fresh helpers stand_ins e =
    let k : Check = first store_order (repair_lines s (length area) fresh helpers stand_ins) in
    let done : StoreOutcome = repair_done s area fresh helpers stand_ins in
    subst (λ (t : Check). AsAlone p (sole s p p area [] done k) (both s p p area [] done t))
    (sym (idle-first s p (drop 1 (repair_lines s (length area) fresh helpers stand_ins)) e refl)) (same-either s p area [] done k)

edit-alone : (s : Record) (p : Running) (area : List ℕ) (offset : ℕ) (bytes boards : List ℕ) → p.running ≡ false
    → AsAlone p (edit_call s area offset bytes boards) (edit_both s p area offset bytes boards)
unfolding edit_call edit_both edit_lines_both edit_lines
edit-alone s p area offset bytes boards e =
    let k : Check = first store_order (edit_lines s area offset bytes boards) in
    let done : StoreOutcome = edit_done s area offset bytes boards in
    subst (λ (t : Check). AsAlone p (sole s p p area [] done k) (both s p p area [] done t))
    (sym (idle-first s p (drop 1 (edit_lines s area offset bytes boards)) e refl)) (same-either s p area [] done k)

move-alone : (s : Record) (p : Running) (area : List ℕ) (board point : ℕ) (helpers partners : List ℕ) → p.running ≡ false
    → AsAlone p (move_call s area board point helpers partners) (move_both s p area board point helpers partners)
unfolding move_call move_both move_lines_both move_lines
move-alone s p area board point helpers partners e =
    let k : Check = first store_order (move_lines s (length area) board point helpers partners) in
    let done : StoreOutcome = move_done s area board point helpers partners in
    subst (λ (t : Check). AsAlone p (sole s p p area [] done k) (both s p p area [] done t))
    (sym (idle-first s p (drop 1 (move_lines s (length area) board point helpers partners)) e refl)) (same-either s p area [] done k)

started-by : (s : Record) (p : Running) (area fresh helpers stand_ins : List ℕ) → (start_call s p area fresh helpers stand_ins).answer.refusal ≡ 0
    → StartedBy s area fresh helpers stand_ins (start_call s p area fresh helpers stand_ins)
unfolding start_call repair_lines_both repair_lines list_lines
started-by s p area fresh helpers stand_ins ok =
    let lines : List Line = repair_lines_both s p (length area) fresh helpers stand_ins in
    let done : Outcome = beside (running_by fresh helpers stand_ins 0) (accepted 0 s area []) in
    let d : first store_order lines ≡ (Ok tt) = both-done (first store_order lines) s p area [] [] done ok in
    let pass : first store_order (repair_lines s (length area) fresh helpers stand_ins) ≡ (Ok tt) =
    (alone-busy s p p.running (drop 1 (repair_lines s (length area) fresh helpers stand_ins)) refl d).0 in
    subst (StartedBy s area fresh helpers stand_ins) (sym (settle-pass _ _ _ d)) (record {
      reports = refl;
      same-record = refl;
      same_area = refl;
      runs = refl;
      none-carried = refl;
      fresh-are = fresh-back s (length area) fresh helpers stand_ins pass 0;
      helpers-are = helpers-back s (length area) fresh helpers stand_ins pass 0;
      stand-ins-are = stand-ins-back s (length area) fresh helpers stand_ins pass 0;
    })

-- ---- lists that a start would refuse

first-up : (s : Record) (l m : List ℕ) → 1 ≤ length l → every (in_service s) (l ++ m) ≡ true → (i : ℕ) × (in_service s i ≡ true)
first-up s [] m h e = absurd (omega (arith, h))
first-up s (j ∷ l) m h e = (j, (every-all (in_service s) (j ∷ (l ++ m)) e).0)

-- lists that pass name a helper in service, so a file was written
has-file : (s : Record) (fresh helpers stand_ins : List ℕ) → sound s ≡ true → first store_order (list_lines s fresh helpers stand_ins) ≡ Ok tt → s.written ≡ true
unfolding list_lines
has-file s fresh helpers stand_ins ok h = go s.written refl
  where
    off : (x : Refusal) → stands store_order x ≡ true → applies_in (list_lines s fresh helpers stand_ins) x ≡ false
    off = clear-off (list_lines s fresh helpers stand_ins) store_order h

    l : Legal s.sizes
    l = legal-facts s.sizes (sound-facts s ok).is-legal

    up : (i : ℕ) × (in_service s i ≡ true)
    up =
        let c = alls-hold (count_tests s fresh helpers stand_ins) (not-no (alls (count_tests s fresh helpers stand_ins)) (off Count refl)) in
        let n : 1 ≤ length fresh = leb-true 1 (length fresh) c.0 in
        let k : length helpers ≡ length fresh * s.sizes.d = eqb-true (length helpers) (length fresh * s.sizes.d) c.1.1.0 in
        let d : 1 ≤ s.sizes.d = omega (arith, l.some_read, l.read-helpers) in
        let m : length fresh * 1 ≤ length fresh * s.sizes.d = mul-le-mul_left (length fresh) d in
        first-up s helpers stand_ins (omega (arith, n, k, m)) (not-no (every (in_service s) (helpers ++ stand_ins)) (off Down refl))

    go : (t : Bool) → s.written ≡ t → s.written ≡ true
    go true e = e
    go false e = absurd ((((demand-1.sound-is s).0 ok).6 e).1 up.0 up.1)

start-would : (s : Record) (p : Running) (area : List ℕ) → sound s ≡ true → p.running ≡ true → length area ≡ area_len s
    → (sound_beside s p ≡ true)
    ↔ (((start_call s idle area (fresh_of p) (helpers_of s.sizes p) (stand_ins_of s.sizes p)).answer.refusal ≡ 0)
    × (p.carried < length (fresh_of p) * (s.sizes.d + s.sizes.r - 1)))
unfolding start_call repair_lines_both repair_lines list_lines
start-would s p area ok runs long = (there, back)
  where
    f : List ℕ
    f = fresh_of p

    h : List ℕ
    h = helpers_of s.sizes p

    i : List ℕ
    i = stand_ins_of s.sizes p

    there : sound_beside s p ≡ true → ((start_call s idle area f h i).answer.refusal ≡ 0) × (p.carried < length f * (s.sizes.d + s.sizes.r - 1))
    there e =
        let g = sound-beside s p e runs in
        let pass = lists-taken s (length area) f h i ok (ap not (eq-eqb (length area) (area_len s) long)) (has-file s f h i ok g.0) g.0 in
        let d = idle-first s idle (drop 1 (repair_lines s (length area) f h i)) refl refl ∙ pass in
        (ap (λ (o : Outcome). o.answer.refusal) (settle-pass _ _ _ d), g.1)

    back : ((start_call s idle area f h i).answer.refusal ≡ 0) × (p.carried < length f * (s.sizes.d + s.sizes.r - 1)) → sound_beside s p ≡ true
    back k =
        let lines : List Line = repair_lines_both s idle (length area) f h i in
        let done : Outcome = beside (running_by f h i 0) (accepted 0 s area []) in
        let d : first store_order lines ≡ (Ok tt) = both-done (first store_order lines) s idle area [] [] done k.0 in
        let pass : first store_order (repair_lines s (length area) f h i) ≡ (Ok tt) = (alone-busy s idle false (drop 1 (repair_lines s (length area) f h i)) refl d).0 in
        (both-calls.beside-is s p).1 (λ e. (first-clear (list_lines s f h i) store_order (lists-pass s (length area) f h i pass), k.1))

none_beside : (s : Record) (p : Running) → sound s ≡ true → p.running ≡ true → s.written ≡ false → sound_beside s p ≡ false
none_beside s p ok runs e = go (sound_beside s p) refl
  where
    go : (t : Bool) → sound_beside s p ≡ t → sound_beside s p ≡ false
    go false k = k
    go true k =
        absurd (true-false (has-file s (fresh_of p) (helpers_of s.sizes p) (stand_ins_of s.sizes p) ok (sound-beside s p k runs).0) e)

pub alone-laws : AloneLaws
alone-laws = record {
  set-up-alone = set-up-alone;
  read-alone = read-alone;
  careful-alone = careful-alone;
  lose-alone = lose-alone;
  write_alone = write_alone;
  repair-alone = repair-alone;
  edit-alone = edit-alone;
  move-alone = move-alone;
  idle-sound = idle-sound;
  start-would = start-would;
  none_beside = none_beside;
  started-by = started-by;
  idle-is = refl;
  running-is = λ fresh helpers stand_ins carried. refl;
  carried-is = λ p m. refl;
  fresh-are = λ p. refl;
  helpers-are = λ z p. refl;
  stand-ins-are = λ z p. refl;
  named-are = λ z p. refl;
  count-is = λ z t. refl;
  length-is = λ s t. refl;
  beside-parts = λ p o. record { answer-is = refl; handed-is = refl; running-is = refl; area-is = refl; output-is = refl; packets-none = refl };
  lost-is = λ s p board. refl;
}
