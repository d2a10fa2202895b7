-- The premises of a list of calls, as tests that can be computed.
-- Assumes nothing.
use Prim.Native.Nat.{ℕ}
use mathlib.Core.Path.{◌≡◌, sym, ◌∙◌, ap}
use mathlib.Core.Bool.{Bool, true, false, not}
use mathlib.Core.List.{List, [], ◌∷◌}
use mathlib.Core.Option.{Option}
use lib.Dec.{eqb, ltb}
use lib.ListN.{length, take}
use borrow.Author.Tests.{eqb-true, not-true, ltb-true}
use Rattle.lists.specs.Tests.{pick, every, below, same}
use Rattle.lists.proofs.Tests.{both, every-all, same-eq}
use Rattle.lists.proofs.Boards.{all_among, below_all}
use Rattle.store_spec.specs.Record.{Record, part}
use Rattle.beside_spec.specs.Lying.{place_of}
use Rattle.beside_spec.specs.Acting.{Call, write, lose, repair, read, edit, start, step, careful, move, State}
use Rattle.ledger_spec.specs.Ledger.{Event, call, power_fails, Book, Repairing, during, book_record, carried_by, Step}
use Rattle.ledger_spec.specs.Ledger.{Altered, Fair, FairEvent, Allowed, lent, next, book_next}

-- a file or an edit is of bytes, and a packet area of the right length has the packets carried as they were left
abbrev pub fairly : Book → List ℕ → Call → Bool
fairly b old (write file) = below 256 file
fairly b old (lose board) = true
fairly b old (repair fresh helpers stand_ins) = true
fairly b old (read boards output) = true
fairly b old (edit offset bytes boards) = below 256 bytes
fairly b old (start fresh helpers stand_ins) = true
fairly b old (step allowance packets) =
    during b.repairing true (λ r.
    same (take (place_of (book_record b) (length r.fresh) (carried_by b r)) packets) (take (place_of (book_record b) (length r.fresh) (carried_by b r)) old))
fairly b old (careful boards output) = true
fairly b old (move board point helpers partners) = ltb point 256

abbrev pub fairly_event : Book → List ℕ → Event → Bool
fairly_event b old (call c) = fairly b old c
fairly_event b old (power_fails p) = not p.running

abbrev pub agrees : Book → Record → List ℕ → List ℕ → Bool
agrees b s old new = pick (eqb (length new) (length old)) (every (λ i. same (part s new i) (part s old i)) b.service) false

abbrev pub allows : State → Book → List Step → Bool
allows w b [] = true
allows w b (t ∷ ts) =
    pick (agrees b w.kept w.area t.area)
    (pick (fairly_event b w.packets t.event) (allows (next (lent w t) t.event) (book_next b t.event) ts) false)
    false

pub agree : (b : Book) (s : Record) (old new : List ℕ) → agrees b s old new ≡ true → Altered b s old new
agree b s old new e =
    let h = both (eqb (length new) (length old)) (every (λ i. same (part s new i) (part s old i)) b.service) e in
    record {
      as_long = eqb-true (length new) (length old) h.0;
      in-service = λ i k. same-eq (part s new i) (part s old i)
          (all_among (λ x. same (part s new x) (part s old x) ≡ true) b.service i (every-all (λ x. same (part s new x) (part s old x)) b.service h.1) k);
    }

pub fair : (b : Book) (old : List ℕ) (c : Call) → fairly b old c ≡ true → Fair b old c
fair b old (write file) e = below_all 256 file e
fair b old (lose board) e = tt
fair b old (repair fresh helpers stand_ins) e = tt
fair b old (read boards output) e = tt
fair b old (edit offset bytes boards) e = below_all 256 bytes e
fair b old (start fresh helpers stand_ins) e = tt
fair b old (step allowance packets) e = λ r q l.
    same-eq _ _ (ap (λ (o : Option Repairing). during o true (λ r.
    same (take (place_of (book_record b) (length r.fresh) (carried_by b r)) packets) (take (place_of (book_record b) (length r.fresh) (carried_by b r)) old))) (sym q) ∙ e)
fair b old (careful boards output) e = tt
fair b old (move board point helpers partners) e = ltb-true point 256 e

pub fair-event : (b : Book) (old : List ℕ) (e : Event) → fairly_event b old e ≡ true → FairEvent b old e
fair-event b old (call c) h = fair b old c h
fair-event b old (power_fails p) h = not-true p.running h

pub allow : (w : State) (b : Book) (ts : List Step) → allows w b ts ≡ true → Allowed w b ts
allow w b [] e = tt
allow w b (t ∷ ts) e =
    let h = both (agrees b w.kept w.area t.area) (pick (fairly_event b w.packets t.event) (allows (next (lent w t) t.event) (book_next b t.event) ts) false) e in
    let g = both (fairly_event b w.packets t.event) (allows (next (lent w t) t.event) (book_next b t.event) ts) h.1 in
    (agree b w.kept w.area t.area h.0, fair-event b w.packets t.event g.0, allow (next (lent w t) t.event) (book_next b t.event) ts g.1)
