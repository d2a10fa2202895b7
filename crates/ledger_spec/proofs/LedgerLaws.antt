-- What a call changes in the ledger's book.
-- Assumes nothing.
use Prim.Native.Nat.{ℕ, ◌+◌, ◌-◌, ◌*◌, ◌≤◌, ◌<◌}
use mathlib.Core.Path.{◌≡◌, refl, sym, ◌∙◌, ap}
use mathlib.Core.Bool.{Bool, true, false, not}
use mathlib.Core.List.{List, [], ◌∷◌, ◌++◌}
use mathlib.Core.Option.{Option, some, none}
use native.Mathlib.Omega.{arith}
use lib.Dec.{ltb, eqb, leb}
use lib.ListN.{length, set}
use borrow.Author.Tests.{le-leb, lt-leb}
use Rattle.lists.specs.Tests.{pick, among, alls, given}
use Rattle.lists.proofs.Tests.{true-false, not-no}
use Rattle.lists.specs.Lists.{put}
use Rattle.lists.proofs.Boards.{among-append-left, among-append-none, among-without}
use Rattle.std.specs.Prelude.{Ok, Err}
use Rattle.sizes.specs.declared.Refusal.TheVariants.{Area, Empty, Idle, Busy}
use Rattle.sizes.specs.Sizing.{α, stripes}
use Rattle.sizes.specs.Refusals.{said, ◌when◌, first, store_order, Check}
use Rattle.sizes.proofs.Orders.{clear-off}
use Rattle.sizes.proofs.Laws.{number-low}
use Rattle.board_spec.specs.Calls.{file_of}
use Rattle.store_spec.specs.Calls.{settle}
use Rattle.beside_spec.specs.Acting.{Call, write, lose, repair, read, edit, start, step, careful, move, output_of}
use Rattle.ledger_spec.specs.Ledger.{Book, Repairing, during, kept_on, ended, goes_on, repair_asked, Entry, replied, book_length, book_lines, accept, enter, pointed_book}
use Rattle.ledger_spec.specs.LedgerLaws.{Accepted, LedgerLaws}
use Rattle.beside_spec.specs.HandedLaws.{new_point, set_points}
use Rattle.store_spec.proofs.Marks.{among_first}
use Rattle.beside_spec.proofs.HandedLaws.{no-point}

-- a refused call moves no board
-- a call is accepted, and then the entry is the accepted one, or it is refused
module _ (b : Book) (output : List ℕ) (done : Entry) where
  abbrev by : Check → Entry
  by t = settle t (λ x. replied (said (Err x)) output b) done

  by-done : (t : Check) → (by t).reply.answer.refusal ≡ 0 → by t ≡ done
  by-done (Ok tt) e = refl
  by-done (Err x) e = absurd (omega (arith, number-low x))

  by-refused : (t : Check) → done.reply.answer.refusal ≡ 0 → ((by t).reply.answer.refusal ≡ 0 → ⊥) → ((by t).book ≡ b) × ((by t).reply.output ≡ output)
  by-refused (Ok tt) e h = absurd (h e)
  by-refused (Err x) e h = (refl, refl)

  by-stay : (t : Check) → (done.book.sizes ≡ b.sizes) × (done.book.capacity ≡ b.capacity) × (done.book.area_length ≡ b.area_length)
      → ((by t).book.sizes ≡ b.sizes) × ((by t).book.capacity ≡ b.capacity) × ((by t).book.area_length ≡ b.area_length)
  by-stay (Ok tt) h = h
  by-stay (Err x) h = (refl, refl, refl)

  by-points : (t : Check) (call : Call) → done.book.points ≡ set_points b.points (new_point call done.reply.answer)
      → (by t).book.points ≡ set_points b.points (new_point call (by t).reply.answer)
  by-points (Ok tt) call h = h
  by-points (Err x) call h = ap (set_points b.points) (sym (no-point call x))

  by-same : (t : Check) → done.book ≡ b → (by t).book ≡ b
  by-same (Ok tt) e = e
  by-same (Err x) e = refl

accepts : (b : Book) (call : Call) → (accept b call).reply.answer.refusal ≡ 0
unfolding accept
accepts b (write file) = refl
accepts b (lose board) = refl
accepts b (repair fresh helpers stand_ins) = refl
accepts b (read boards output) = refl
accepts b (edit offset bytes boards) = refl
accepts b (start fresh helpers stand_ins) = refl
accepts b (step allowance packets) = go b.repairing
  where
    go : (o : Option Repairing) → (during o (replied (said (Ok 0)) [] b) (λ r. pick (leb r.left allowance) (ended b r) (goes_on b r allowance))).reply.answer.refusal ≡ 0
    go none = refl
    go (some r) = by (leb r.left allowance)
      where
        by : (t : Bool) → (pick t (ended b r) (goes_on b r allowance)).reply.answer.refusal ≡ 0
        by true = refl
        by false = refl
accepts b (careful boards output) = refl
accepts b (move board point helpers partners) = refl

done-stay : (b : Book) (call : Call)
    → ((accept b call).book.sizes ≡ b.sizes) × ((accept b call).book.capacity ≡ b.capacity) × ((accept b call).book.area_length ≡ b.area_length)
unfolding accept
done-stay b (write file) = (refl, refl, refl)
done-stay b (lose board) = (refl, refl, refl)
done-stay b (repair fresh helpers stand_ins) = (refl, refl, refl)
done-stay b (read boards output) = (refl, refl, refl)
done-stay b (edit offset bytes boards) = (refl, refl, refl)
done-stay b (start fresh helpers stand_ins) = (refl, refl, refl)
done-stay b (step allowance packets) = go b.repairing
  where
    go : (o : Option Repairing)
        → let e = during o (replied (said (Ok 0)) [] b) (λ r. pick (leb r.left allowance) (ended b r) (goes_on b r allowance)) in
        (e.book.sizes ≡ b.sizes) × (e.book.capacity ≡ b.capacity) × (e.book.area_length ≡ b.area_length)
    go none = (refl, refl, refl)
    go (some r) = by (leb r.left allowance)
      where
        by : (t : Bool) → let e = pick t (ended b r) (goes_on b r allowance) in
            (e.book.sizes ≡ b.sizes) × (e.book.capacity ≡ b.capacity) × (e.book.area_length ≡ b.area_length)
        by true = (refl, refl, refl)
        by false = (refl, refl, refl)
done-stay b (careful boards output) = (refl, refl, refl)
done-stay b (move board point helpers partners) = (refl, refl, refl)

done-points : (b : Book) (call : Call) → (accept b call).book.points ≡ set_points b.points (new_point call (accept b call).reply.answer)
unfolding accept
done-points b (write file) = refl
done-points b (lose board) = refl
done-points b (repair fresh helpers stand_ins) = refl
done-points b (read boards output) = refl
done-points b (edit offset bytes boards) = refl
done-points b (start fresh helpers stand_ins) = refl
done-points b (step allowance packets) = go b.repairing
  where
    go : (o : Option Repairing)
        → (during o (replied (said (Ok 0)) [] b) (λ r. pick (leb r.left allowance) (ended b r) (goes_on b r allowance))).book.points ≡ b.points
    go none = refl
    go (some r) = by (leb r.left allowance)
      where
        by : (t : Bool) → (pick t (ended b r) (goes_on b r allowance)).book.points ≡ b.points
        by true = refl
        by false = refl
done-points b (careful boards output) = refl
done-points b (move board point helpers partners) = refl

is-done : (b : Book) (call : Call) → Accepted b call → enter b call ≡ accept b call
unfolding enter
is-done b call e = by-done b (output_of call) (accept b call) (first store_order (book_lines b call)) e

refused : (b : Book) (call : Call) → (Accepted b call → ⊥) → ((enter b call).book ≡ b) × ((enter b call).reply.output ≡ output_of call)
unfolding enter
refused b call h = by-refused b (output_of call) (accept b call) (first store_order (book_lines b call)) (accepts b call) h

stay : (b : Book) (call : Call)
    → ((enter b call).book.sizes ≡ b.sizes) × ((enter b call).book.capacity ≡ b.capacity) × ((enter b call).book.area_length ≡ b.area_length)
unfolding enter
stay b call = by-stay b (output_of call) (accept b call) (first store_order (book_lines b call)) (done-stay b call)

points-are : (b : Book) (call : Call) → (enter b call).book.points ≡ set_points b.points (new_point call (enter b call).reply.answer)
unfolding enter
points-are b call = by-points b (output_of call) (accept b call) (first store_order (book_lines b call)) call (done-points b call)

writes : (b : Book) (file : List ℕ) → Accepted b (write file)
    → ((enter b (write file)).book.file ≡ some file) × ((i : ℕ) → among (enter b (write file)).book.service i ≡ ltb i b.sizes.n)
unfolding accept
writes b file e =
    let d = is-done b (write file) e in
    (ap (λ (y : Entry). y.book.file) d, λ i. ap (λ (y : Entry). among y.book.service i) d ∙ among_first b.sizes.n i)

loses : (b : Book) (board : ℕ) → Accepted b (lose board)
    → ((enter b (lose board)).book.file ≡ b.file)
    × ((i : ℕ) → among (enter b (lose board)).book.service i ≡ pick (eqb board i) false (among b.service i))
unfolding accept
loses b board e =
    let d = is-done b (lose board) e in
    (ap (λ (y : Entry). y.book.file) d, λ i. ap (λ (y : Entry). among y.book.service i) d ∙ among-without board b.service i)

among-either : (xs ys : List ℕ) (i : ℕ) → among (xs ++ ys) i ≡ pick (among xs i) true (among ys i)
among-either xs ys i = go (among xs i) refl
  where
    go : (t : Bool) → among xs i ≡ t → among (xs ++ ys) i ≡ pick t true (among ys i)
    go true e = among-append-left xs ys i e
    go false e = among-append-none xs ys i e

repairs : (b : Book) (fresh helpers stand_ins : List ℕ) → Accepted b (repair fresh helpers stand_ins)
    → ((enter b (repair fresh helpers stand_ins)).book.file ≡ b.file)
    × ((i : ℕ) → among (enter b (repair fresh helpers stand_ins)).book.service i ≡ pick (among fresh i) true (among b.service i))
unfolding accept
repairs b fresh helpers stand_ins e =
    let d = is-done b (repair fresh helpers stand_ins) e in
    (ap (λ (y : Entry). y.book.file) d, λ i. ap (λ (y : Entry). among y.book.service i) d ∙ among-either fresh b.service i)

reads : (b : Book) (boards output : List ℕ) → (enter b (read boards output)).book ≡ b
unfolding enter accept
reads b boards output = by-same b output (accept b (read boards output)) (first store_order (book_lines b (read boards output))) refl

careful-reads : (b : Book) (boards output : List ℕ) → (enter b (careful boards output)).book ≡ b
unfolding enter accept
careful-reads b boards output = by-same b output (accept b (careful boards output)) (first store_order (book_lines b (careful boards output))) refl

edits : (b : Book) (offset : ℕ) (bytes boards : List ℕ) → Accepted b (edit offset bytes boards)
    → ((enter b (edit offset bytes boards)).book.file ≡ some (put (file_of b.file) offset bytes))
    × ((enter b (edit offset bytes boards)).book.service ≡ b.service)
unfolding accept
edits b offset bytes boards e =
    let d = is-done b (edit offset bytes boards) e in (ap (λ (y : Entry). y.book.file) d, ap (λ (y : Entry). y.book.service) d)

loses-repair : (b : Book) (board : ℕ) → Accepted b (lose board) → (enter b (lose board)).book.repairing ≡ during b.repairing none (λ r. kept_on r board)
unfolding accept
loses-repair b board e = ap (λ (y : Entry). y.book.repairing) (is-done b (lose board) e)

-- an accepted start passed BUSY
none-there : (o : Option Repairing) → given o ≡ false → o ≡ none
none-there none e = refl
none-there (some r) e = absurd (true-false refl e)

taken : (b : Book) (call : Call) → Accepted b call → first store_order (book_lines b call) ≡ Ok tt
unfolding enter
taken b call e = go (first store_order (book_lines b call)) e
  where
    go : (t : Check) → (settle t (λ x. replied (said (Err x)) (output_of call) b) (accept b call)).reply.answer.refusal ≡ 0 → t ≡ Ok tt
    go (Ok tt) h = refl
    go (Err x) h = absurd (omega (arith, number-low x))

starts : (b : Book) (fresh helpers stand_ins : List ℕ) → Accepted b (start fresh helpers stand_ins)
    → (b.repairing ≡ none)
    × ((enter b (start fresh helpers stand_ins)).book.repairing
    ≡ some (record { fresh = fresh; helpers = helpers; stand_ins = stand_ins; left = length fresh * (b.sizes.d + b.sizes.r - 1) }))
    × ((enter b (start fresh helpers stand_ins)).book.file ≡ b.file) × ((enter b (start fresh helpers stand_ins)).book.service ≡ b.service)
unfolding accept book_lines repair_asked
starts b fresh helpers stand_ins e =
    let d = is-done b (start fresh helpers stand_ins) e in
    let off = clear-off (book_lines b (start fresh helpers stand_ins)) store_order (taken b (start fresh helpers stand_ins) e) in (
      none-there b.repairing (off Busy refl),
      ap (λ (y : Entry). y.book.repairing) d,
      ap (λ (y : Entry). y.book.file) d,
      ap (λ (y : Entry). y.book.service) d,
    )

moves : (b : Book) (board point : ℕ) (helpers partners : List ℕ) → Accepted b (move board point helpers partners)
    → (b.repairing ≡ none)
    × ((enter b (move board point helpers partners)).reply.answer.reported ≡ stripes b.sizes (book_length b) * (2 * b.sizes.d + b.sizes.r - 1))
    × ((enter b (move board point helpers partners)).book ≡ pointed_book b (set b.points board point))
unfolding accept book_lines
moves b board point helpers partners e =
    let off = clear-off (book_lines b (move board point helpers partners)) store_order (taken b (move board point helpers partners) e) in
    let d = is-done b (move board point helpers partners) e in
    (none-there b.repairing (off Busy refl), ap (λ (y : Entry). y.reply.answer.reported) d, ap (λ (y : Entry). y.book) d)

module _ (b : Book) (r : Repairing) (allowance : ℕ) (packets : List ℕ) (q : b.repairing ≡ some r) (e : Accepted b (step allowance packets)) where
  stepped : (t : Bool) → leb r.left allowance ≡ t → enter b (step allowance packets) ≡ pick t (ended b r) (goes_on b r allowance)
  unfolding accept
  stepped t h =
      is-done b (step allowance packets) e
      ∙ ap (λ (o : Option Repairing). during o (replied (said (Ok 0)) [] b) (λ r. pick (leb r.left allowance) (ended b r) (goes_on b r allowance))) q
      ∙ ap (λ (x : Bool). pick x (ended b r) (goes_on b r allowance)) h

  steps_on : allowance < r.left
      → ((enter b (step allowance packets)).reply.answer.reported ≡ allowance)
      × ((enter b (step allowance packets)).book.repairing ≡ some (record { fresh = r.fresh; helpers = r.helpers; stand_ins = r.stand_ins; left = r.left - allowance }))
      × ((enter b (step allowance packets)).book.file ≡ b.file) × ((enter b (step allowance packets)).book.service ≡ b.service)
  steps_on h =
      let d = stepped false (lt-leb r.left allowance h) in
      (ap (λ (y : Entry). y.reply.answer.reported) d, ap (λ (y : Entry). y.book.repairing) d, ap (λ (y : Entry). y.book.file) d, ap (λ (y : Entry). y.book.service) d)

  steps-last : r.left ≤ allowance
      → ((enter b (step allowance packets)).reply.answer.reported ≡ r.left)
      × ((enter b (step allowance packets)).book.repairing ≡ none)
      × ((enter b (step allowance packets)).book.file ≡ b.file)
      × ((i : ℕ) → among (enter b (step allowance packets)).book.service i ≡ pick (among r.fresh i) true (among b.service i))
  steps-last h =
      let d = stepped true (le-leb r.left allowance h) in (
        ap (λ (y : Entry). y.reply.answer.reported) d,
        ap (λ (y : Entry). y.book.repairing) d,
        ap (λ (y : Entry). y.book.file) d,
        λ i. ap (λ (y : Entry). among y.book.service i) d ∙ among-either r.fresh b.service i,
      )

steps-none : (b : Book) (allowance : ℕ) (packets : List ℕ) → b.repairing ≡ none → Accepted b (step allowance packets) → ⊥
unfolding book_lines
steps-none b allowance packets q e =
    let off = clear-off (book_lines b (step allowance packets)) store_order (taken b (step allowance packets) e) in
    true-false (not-no _ (off Idle refl)) (ap given q)

by_length : (b : Book) (allowance : ℕ) (packets packets' : List ℕ) → length packets ≡ length packets' → enter b (step allowance packets) ≡ enter b (step allowance packets')
unfolding enter book_lines accept
by_length b allowance packets packets' e =
    ap (λ (m : ℕ). settle (first store_order
    (Area when not (alls
    (eqb b.area_length (b.sizes.n * (b.capacity * α b.sizes))
    ∷ during b.repairing true (λ r. eqb m (stripes b.sizes (book_length b) * length r.fresh * α b.sizes))
    ∷ []))
    ∷ Empty when not (given b.file)
    ∷ Idle when not (given b.repairing)
    ∷ [])) (λ x. replied (said (Err x)) [] b)
    (during b.repairing (replied (said (Ok 0)) [] b) (λ r. pick (leb r.left allowance) (ended b r) (goes_on b r allowance)))) e

pub ledger-laws : LedgerLaws
ledger-laws = record {
  refused = refused;
  stay = stay;
  points-are = points-are;
  moves = moves;
  writes = writes;
  loses = loses;
  repairs = repairs;
  edits = edits;
  starts = starts;
  steps_on = steps_on;
  steps-last = steps-last;
  steps-none = steps-none;
  by_length = by_length;
  loses-repair = loses-repair;
  reads = reads;
  careful-reads = careful-reads;
  record_is = λ b. refl;
  tells_none = λ z p. (λ h. h, λ h. h);
  tells-some = λ z r p. (λ h. h, λ h. h);
}
