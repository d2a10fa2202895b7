-- The ledger's lines are the store's with both records, line by line, for each call; but SIZE and DISAGREE, which the ledger does not ask.
-- Assumes nothing.
use Prim.Native.Nat.{ℕ, ◌-◌, ◌*◌, ◌<◌, ◌≤◌}
use mathlib.Core.Path.{◌≡◌, refl, ap, ap₂}
use mathlib.Core.Bool.{Bool, true, false, not}
use mathlib.Core.List.{List, [], ◌∷◌}
use mathlib.Core.Option.{Option, some, none}
use native.Mathlib.Omega.{arith}
use lib.ListN.{length}
use lib.Dec.{eqb}
use Rattle.lists.specs.Lists.{All, tabulate}
use Rattle.lists.specs.Tests.{among, alls, pick, given}
use Rattle.lists.proofs.Alls.{all-imp}
use Rattle.sizes.specs.Refusals.{applies_in}
use Rattle.sizes.specs.Sizing.{legal, max_boards, α, stripes}
use Rattle.sizes.specs.declared.Refusal.TheVariants.{Size}
use Rattle.sizes.proofs.Legal.{legal-facts}
use Rattle.sizes.proofs.Alike.{here, past, Alike, ◌and◌, end, further, size, disagree, alike_at}
use Rattle.store_spec.specs.Calls.{write_lines, lose_lines, list_lines, repair_lines, read_lines}
use Rattle.store_spec.specs.Edit.{edit_lines}
use Rattle.store_spec.specs.Careful.{careful_lines}
use Rattle.store_spec.specs.Move.{move_lines}
use Rattle.beside_spec.specs.Running.{Running, fresh_of, packets_len, sound_beside, idle, running_by}
use Rattle.beside_spec.specs.Both.{write_lines_both, lose_lines_both, repair_lines_both, read_lines_both, edit_lines_both, careful_lines_both, move_lines_both, step_lines}
use Rattle.beside_spec.specs.BothCalls.{store_lines}
use Rattle.beside_spec.specs.Acting.{Call, write, lose, repair, read, edit, start, step, careful, move}
use Rattle.ledger_spec.specs.Ledger.{Book, Repairing, during, book_record, book_length, book_lines, repair_asked, carried_by, book_running}
use Rattle.store_spec.specs.Record.{sound, area_len, in_service}
use Rattle.store_spec.proofs.Marks.{mark-at}
use Rattle.lists.proofs.Pieces.{take-fit}
use Rattle.board_spec.proofs.Claims.{◌and◌, end}
use Rattle.ledger_spec.specs.LedgerLaws.{LinesAgree}
use Rattle.store_spec.proofs.Asked.{down-same, every-same, node-same, one_below, repeat-same, serving-same, three-below}

-- a record of a repair runs just where the book says so, and then tells the book's fresh boards
abbrev pub Tallies : Option Repairing → Running → Type 0
Tallies none p = p.running ≡ false
Tallies (some r) p = (p.running ≡ true) × (fresh_of p ≡ r.fresh)

pub tallies-running : (o : Option Repairing) (p : Running) → Tallies o p → p.running ≡ given o
tallies-running none p h = h
tallies-running (some r) p h = h.0

module _ (b : Book) (area : List ℕ) (ok : legal b.sizes ≡ true) (low : All (λ i. i < b.sizes.n) b.service) (as_long : length area ≡ b.area_length) where
  pub serves : (i : ℕ) → in_service (book_record b) i ≡ among b.service i
  serves i =
      mark-at b.service i
      (all-imp (λ x. x < b.sizes.n) (λ x. x < max_boards) (λ x h. let k = (legal-facts b.sizes ok).few in omega arith) b.service low)

  area-is : eqb (length area) (area_len (book_record b)) ≡ eqb b.area_length (area_len (book_record b))
  area-is = ap (λ (m : ℕ). eqb m (area_len (book_record b))) as_long

  module _ (p : Running) (tallies : Tallies b.repairing p) where
    runs : p.running ≡ given b.repairing
    runs = tallies-running b.repairing p tallies

    packets-asked : (packets : List ℕ) → pick p.running (eqb (length packets) (packets_len (book_record b) (length (fresh_of p)))) true
        ≡ during b.repairing true (λ r. eqb (length packets) (stripes b.sizes (book_length b) * length r.fresh * α b.sizes))
    packets-asked packets = go b.repairing tallies
      where
        go : (o : Option Repairing) → Tallies o p
            → pick p.running (eqb (length packets) (packets_len (book_record b) (length (fresh_of p)))) true
            ≡ during o true (λ r. eqb (length packets) (stripes b.sizes (book_length b) * length r.fresh * α b.sizes))
        go none h = ap (λ (t : Bool). pick t (eqb (length packets) (packets_len (book_record b) (length (fresh_of p)))) true) h
        go (some r) h =
            ap₂ {C = Bool} (λ (t : Bool) (l : List ℕ). pick t (eqb (length packets) (packets_len (book_record b) (length l))) true) h.0 h.1

    -- a repair and a start
    asked : (fresh helpers stand_ins : List ℕ) → Alike (repair_lines_both (book_record b) p (length area) fresh helpers stand_ins) (repair_asked b fresh helpers stand_ins)
    unfolding repair_lines_both list_lines repair_lines repair_asked
    asked fresh helpers stand_ins =
        size
        (further runs (past refl (past refl here))
        (ap not area-is
        and refl
        and refl
        and ap not (three-below b.sizes.n fresh helpers stand_ins)
        and ap not (repeat-same b.sizes.d (b.sizes.r - length fresh) fresh helpers stand_ins helpers stand_ins)
        and ap not (serving-same (book_record b) b.service serves fresh)
        and ap not (down-same (book_record b) b.service serves helpers stand_ins)
        and end))

    pub alike : (call : Call) → Alike (store_lines (book_record b) p area call) (book_lines b call)
    unfolding store_lines write_lines_both lose_lines_both read_lines_both edit_lines_both careful_lines_both move_lines_both step_lines write_lines lose_lines read_lines edit_lines careful_lines move_lines book_lines
    alike (write file) = size (further runs (past refl (past refl here)) (ap not area-is and refl and end))
    alike (lose board) = size (ap not (one_below b.sizes.n board) and end)
    alike (repair fresh helpers stand_ins) = asked fresh helpers stand_ins
    alike (read boards output) =
        size
        (ap not area-is
        and refl
        and refl
        and refl
        and refl
        and ap not (every-same (in_service (book_record b)) (among b.service) boards serves)
        and refl
        and disagree end)
    alike (edit offset bytes boards) =
        size
        (further runs (past refl (past refl here))
        (ap not area-is
        and refl
        and refl
        and refl
        and refl
        and refl
        and ap not (every-same (in_service (book_record b)) (among b.service) boards serves)
        and disagree end))
    alike (start fresh helpers stand_ins) = asked fresh helpers stand_ins
    alike (step allowance packets) =
        size
        (ap₂ {C = Bool} (λ (t u : Bool). not (alls (t ∷ u ∷ []))) area-is (packets-asked packets)
        and refl
        and ap not runs
        and end)
    alike (careful boards output) =
        size
        (ap not area-is
        and refl
        and refl
        and refl
        and refl
        and ap not (every-same (in_service (book_record b)) (among b.service) boards serves)
        and refl
        and disagree end)
    alike (move board point helpers partners) =
        size
        (further runs (past refl (past refl here))
        (ap not area-is
        and refl
        and refl
        and ap not (node-same b.sizes.n board helpers partners)
        and refl
        and ap not (every-same (in_service (book_record b)) (among b.service) (tabulate b.sizes.n (λ i. i)) serves)
        and end))

-- SIZE is off in both
pub size_same : (b : Book) (p : Running) (area : List ℕ) → not (alls (sound (book_record b) ∷ sound_beside (book_record b) p ∷ [])) ≡ false → (call : Call)
    → applies_in (store_lines (book_record b) p area call) Size ≡ applies_in (book_lines b call) Size
unfolding store_lines write_lines_both lose_lines_both repair_lines_both read_lines_both edit_lines_both careful_lines_both move_lines_both step_lines write_lines lose_lines
    list_lines repair_lines read_lines edit_lines careful_lines move_lines book_lines repair_asked
size_same b p area h (write file) = h
size_same b p area h (lose board) = h
size_same b p area h (repair fresh helpers stand_ins) = h
size_same b p area h (read boards output) = h
size_same b p area h (edit offset bytes boards) = h
size_same b p area h (start fresh helpers stand_ins) = h
size_same b p area h (step allowance packets) = h
size_same b p area h (careful boards output) = h
size_same b p area h (move board point helpers partners) = h

-- the record that the book tells tallies with it
tells_all : (b : Book) → ((r : Repairing) → b.repairing ≡ some r → length r.fresh ≤ 32) → Tallies b.repairing (book_running b)
tells_all b room = go b.repairing room
  where
    go : (o : Option Repairing) → ((r : Repairing) → o ≡ some r → length r.fresh ≤ 32)
        → Tallies o (during o idle (λ r. running_by r.fresh r.helpers r.stand_ins (carried_by b r)))
    go none k = refl
    go (some r) k = (refl, take-fit 32 r.fresh (k r refl))

pub lines-agree : LinesAgree
lines-agree = record { lines-agree = λ b area c ok low as_long room. alike_at (alike b area ok low as_long (book_running b) (tells_all b room) c) }
