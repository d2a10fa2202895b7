-- What an accepted call changes in the store's record.
-- Assumes nothing.
use Prim.Native.Nat.{ℕ, ◌<◌}
use mathlib.Core.Path.{◌≡◌, refl, sym, ◌∙◌, ap}
use mathlib.Core.Bool.{Bool, true, false}
use mathlib.Core.List.{List, [], ◌∷◌}
use native.Mathlib.Omega.{arith}
use lib.Dec.{ltb, eqb}
use lib.ListN.{length, length-set, get_or, set}
use lib.Seq.{get_or-set_same, get_or-set_other}
use borrow.Author.Tests.{eqb-true, eqb-false}
use Rattle.lists.specs.Tests.{pick, among}
use Rattle.lists.proofs.Pieces.{tabulate-at}
use Rattle.std.specs.Prelude.{Ok, Err}
use Rattle.sizes.specs.Sizing.{max_boards}
use Rattle.sizes.specs.Refusals.{first, store_order, Check}
use Rattle.sizes.proofs.Laws.{number-low}
use Rattle.store_spec.specs.Record.{Record, in_service, turn_on}
use Rattle.store_spec.specs.Calls.{StoreOutcome, settle, refused, write_lines, write_done, write_call, lose_lines, lose_done, lose_call, repair_lines, repair_done, repair_call, read_lines}
use Rattle.store_spec.specs.Calls.{read_done, read_call}
use Rattle.store_spec.specs.Edit.{edit_lines, edit_done, edit_call}
use Rattle.store_spec.specs.Careful.{careful_lines, careful_done, careful_call}
use Rattle.store_spec.specs.Move.{move_lines, move_done, move_call}
use Rattle.store_spec.proofs.Marks.{off}
use Rattle.store_spec.specs.MarkLaws.{MarkLaws}

-- a call that is accepted has done its work
by-done : (t : Check) (s : Record) (area output : List ℕ) (done : StoreOutcome)
    → (settle t (refused s area output) done).answer.refusal ≡ 0 → settle t (refused s area output) done ≡ done
by-done (Ok tt) s area output done e = refl
by-done (Err x) s area output done e = absurd (omega (arith, number-low x))

-- ---- a mark is set

on : (marks : List Bool) (b i : ℕ) → i < length marks → get_or (set marks b true) i false ≡ pick (eqb b i) true (get_or marks i false)
on marks b i h = go (eqb b i) refl
  where
    go : (t : Bool) → eqb b i ≡ t → get_or (set marks b true) i false ≡ pick t true (get_or marks i false)
    go true e =
        let q = eqb-true b i e in
        ap (λ (x : ℕ). get_or (set marks b true) x false) (sym q) ∙ get_or-set_same marks b true false (omega (arith, h, q))
    go false e = get_or-set_other marks b i true false (λ q. eqb-false b i e (sym q))

all-on : (boards : List ℕ) (marks : List Bool) (i : ℕ) → i < length marks → get_or (turn_on boards marks) i false ≡ pick (among boards i) true (get_or marks i false)
all-on [] marks i h = refl
all-on (b ∷ boards) marks i h =
    all-on boards (set marks b true) i (omega (arith, h, length-set marks b true))
    ∙ ap (λ (t : Bool). pick (among boards i) true t) (on marks b i h)
    ∙ swap (among boards i) (eqb b i)
  where
    swap : (t u : Bool) → pick t true (pick u true (get_or marks i false)) ≡ pick (pick u true t) true (get_or marks i false)
    swap true true = refl
    swap true false = refl
    swap false true = refl
    swap false false = refl

-- ---- the calls

module _ (s : Record) (area : List ℕ) where
  did_write : (file : List ℕ) → (write_call s area file).answer.refusal ≡ 0 → write_call s area file ≡ write_done s area file
  unfolding write_call
  did_write file e = by-done (first store_order (write_lines s (length area) file)) s area [] (write_done s area file) e

  did-lose : (board : ℕ) → (lose_call s area board).answer.refusal ≡ 0 → lose_call s area board ≡ lose_done s area board
  unfolding lose_call
  did-lose board e = by-done (first store_order (lose_lines s board)) s area [] (lose_done s area board) e

  did-repair : (fresh helpers stand_ins : List ℕ) → (repair_call s area fresh helpers stand_ins).answer.refusal ≡ 0
      → repair_call s area fresh helpers stand_ins ≡ repair_done s area fresh helpers stand_ins
  unfolding repair_call
  did-repair fresh helpers stand_ins e = by-done (first store_order (repair_lines s (length area) fresh helpers stand_ins)) s area [] (repair_done s area fresh helpers stand_ins) e

  same : (t : Check) (output : List ℕ) (done : StoreOutcome) → done.handed ≡ s → (settle t (refused s area output) done).handed ≡ s
  same (Ok tt) output done e = e
  same (Err x) output done e = refl

  did_read : (boards output : List ℕ) → (read_call s area boards output).handed ≡ s
  unfolding read_call
  did_read boards output = same (first store_order (read_lines s area boards output)) output (read_done s area boards output) refl

  did-edit : (offset : ℕ) (bytes boards : List ℕ) → (edit_call s area offset bytes boards).handed ≡ s
  unfolding edit_call
  did-edit offset bytes boards = same (first store_order (edit_lines s area offset bytes boards)) [] (edit_done s area offset bytes boards) refl

  did-careful : (boards output : List ℕ) → (careful_call s area boards output).handed ≡ s
  unfolding careful_call
  did-careful boards output = same (first store_order (careful_lines s area boards output)) output (careful_done s area boards output) refl

  did-move : (board point : ℕ) (helpers partners : List ℕ) → (move_call s area board point helpers partners).answer.refusal ≡ 0
      → move_call s area board point helpers partners ≡ move_done s area board point helpers partners
  unfolding move_call
  did-move board point helpers partners e =
      by-done (first store_order (move_lines s (length area) board point helpers partners)) s area [] (move_done s area board point helpers partners) e

pub mark-laws : MarkLaws
mark-laws = record {
  moves = λ s area board point helpers partners e. ap (λ (o : StoreOutcome). o.handed) (did-move s area board point helpers partners e);
  writes = λ s area file e.
      let d = ap (λ (o : StoreOutcome). o.handed) (did_write s area file e) in (
        λ i h. ap (λ (r : Record). in_service r i) d ∙ tabulate-at max_boards (λ x. ltb x s.sizes.n) false i h,
        (ap (λ (r : Record). r.sizes) d, ap (λ (r : Record). r.points) d, ap (λ (r : Record). r.capacity) d),
        ap (λ (r : Record). r.written) d,
        ap (λ (r : Record). r.length) d,
      );
  loses = λ s area board e.
      let d = ap (λ (o : StoreOutcome). o.handed) (did-lose s area board e) in (
        λ i. ap (λ (r : Record). in_service r i) d ∙ off s.marks board i,
        (ap (λ (r : Record). r.sizes) d, ap (λ (r : Record). r.points) d, ap (λ (r : Record). r.capacity) d),
        (ap (λ (r : Record). r.written) d, ap (λ (r : Record). r.length) d),
      );
  repairs = λ s area fresh helpers stand_ins full e.
      let d = ap (λ (o : StoreOutcome). o.handed) (did-repair s area fresh helpers stand_ins e) in (
        λ i h. ap (λ (r : Record). in_service r i) d ∙ all-on fresh s.marks i (omega (arith, full, h)),
        (ap (λ (r : Record). r.sizes) d, ap (λ (r : Record). r.points) d, ap (λ (r : Record). r.capacity) d),
        (ap (λ (r : Record). r.written) d, ap (λ (r : Record). r.length) d),
      );
  reads = did_read;
  careful-reads = did-careful;
  edits = did-edit;
}
