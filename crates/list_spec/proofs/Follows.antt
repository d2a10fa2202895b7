-- Demand 3 holds for whatever follows the definitions, and so does what holds of worn boards.
-- Assumes nothing.
use mathlib.Core.Path.{◌≡◌, refl, sym, ◌∙◌, ap, ap₂, subst}
use mathlib.Core.List.{List, [], ◌∷◌}
use Prim.Native.Nat.{ℕ}
use lib.ListN.{length}
use Rattle.store_spec.specs.Record.{Record}
use Rattle.beside_spec.specs.Running.{Running}
use Rattle.beside_spec.specs.Both.{Outcome}
use Rattle.beside_spec.specs.Acting.{Call, write, lose, repair, read, edit, start, step, careful, State}
use Rattle.ledger_spec.specs.Ledger.{Event, call, power_fails, Step, Reply}
use Rattle.ledger_spec.specs.Ledger.{reply_of, packets_after, lent, next, replies, final, open_book, book_final}
use Rattle.beside_spec.specs.Acting.{act, move}
use Rattle.ledger_spec.specs.Demand3.{Intact, begun, events}
use Rattle.list_spec.specs.Follows.{Moment, gave, anew, outcome_of, Meets, handed_on, Follows, replies_in, ending, FollowsDemand3, FollowsWorn, FollowsLaws}
use Rattle.list_spec.specs.WornLaws.{Worn}
use Rattle.ledger_spec.proofs.Demand3.{demand-3}
use Rattle.list_spec.proofs.Worn.{worn}

-- a call does not look at the packet area that the last step left
pub act-any : (s : Record) (p : Running) (area l m : List ℕ) (c : Call)
    → act (record { kept = s; running = p; area = area; packets = l }) c ≡ act (record { kept = s; running = p; area = area; packets = m }) c
unfolding act
act-any s p area l m (write file) = refl
act-any s p area l m (lose board) = refl
act-any s p area l m (repair fresh helpers stand_ins) = refl
act-any s p area l m (read boards output) = refl
act-any s p area l m (edit offset bytes boards) = refl
act-any s p area l m (start fresh helpers stand_ins) = refl
act-any s p area l m (step allowance packets) = refl
act-any s p area l m (careful boards output) = refl
act-any s p area l m (move board point helpers partners) = refl

module _ (X : Type 0) (kept : X → Record) (beside : X → Running) where
  -- x tells the records of the definitions' state
  record Is (x : X) (w : State) : Type 0 where
    same-record : kept x ≡ w.kept
    same-running : beside x ≡ w.running

  record Ran (x : X) (area packets : List ℕ) (w : State) (steps : List Step) (run : List (Moment X)) : Type 0 where
    alike : replies_in X kept beside run ≡ replies w steps
    ends : ending X kept beside x area packets steps run ≡ final w steps

  ran : (steps : List Step) (x : X) (w : State) (run : List (Moment X)) → Is x w → Follows X kept beside x steps run → Ran x w.area w.packets w steps run
  ran [] x w [] h f = record {
    alike = refl;
    ends = ap₂ {C = State} (λ (s : Record) (p : Running). record { kept = s; running = p; area = w.area; packets = w.packets }) h.same-record h.same-running;
  }
  ran [] x w (m ∷ ms) h f = absurd f
  ran (t ∷ ts) x w [] h f = absurd f
  ran (t ∷ ts) x w (m ∷ ms) h f = go t.event m f.0 (λ y u i. ran ts y u ms i) f.1
    where
      go : (e : Event) (m : Moment X) → Meets X kept beside x t.area e m
          → ((y : X) (u : State) → Is y u → Follows X kept beside y ts ms → Ran y u.area u.packets u ts ms)
          → Follows X kept beside (handed_on X kept beside m) ts ms
          → Ran x w.area w.packets w (record { area = t.area; event = e } ∷ ts) (m ∷ ms)
      go (call c) (anew y) f ih k = absurd f
      go (power_fails p) (gave g) f ih k = absurd f
      go (call c) (gave g) f ih k =
          let v : State = lent w t in
          let o : Outcome = outcome_of X kept beside g in
          let e : o ≡ act v c =
          f ∙ ap₂ (λ (s : Record) (p : Running). act (record { kept = s; running = p; area = t.area; packets = [] }) c) h.same-record h.same-running
          ∙ act-any w.kept w.running t.area [] w.packets c in
          let u : State = record { kept = o.handed; running = o.running; area = o.area; packets = packets_after w.packets c o } in
          let n : u ≡ next v (call c) =
          ap (λ (o : Outcome). record { kept = o.handed; running = o.running; area = o.area; packets = packets_after w.packets c o }) e in
          let r = ih g.handed u (record { same-record = refl; same-running = refl }) k in
          record {
            alike = ap₂ {C = List Reply} (λ (a : Reply) (l : List Reply). a ∷ l) (ap reply_of e) (r.alike ∙ ap (λ (u : State). replies u ts) n);
            ends = r.ends ∙ ap (λ (u : State). final u ts) n;
          }
      go (power_fails p) (anew y) f ih k =
          let r = ih y (next (lent w t) (power_fails p)) (record { same-record = f.0 ∙ h.same-record; same-running = f.1 }) k in
          record { alike = r.alike; ends = r.ends }

  pub follows : FollowsDemand3 X kept beside
  follows old p z xs c x a b ok area steps run allowed f =
      let d = demand-3 old p z xs c area steps ok allowed in
      let w : State = begun old p z xs c area in
      let r = ran steps x w run (record { same-record = a; same-running = b }) f in (
        r.alike ∙ d.alike,
        subst (λ (e : State). Intact e (book_final (open_book z xs c (length area)) (events steps))) (sym r.ends) d.after,
      )

  pub follows-worn : FollowsWorn X kept beside
  follows-worn old p z xs c x a b ok area steps run any f =
      subst (λ (e : State). Worn e (book_final (open_book z xs c (length area)) (events steps)))
      (sym (ran steps x (begun old p z xs c area) run (record { same-record = a; same-running = b }) f).ends)
      (worn old p z xs c area steps ok any)

  pub follows-laws : FollowsLaws X kept beside
  follows-laws = record {
    none-follows = λ x. tt;
    call-follows = λ x area c g ts hs e f. (e, f);
    fails-follows = λ x y area p ts hs a b f. ((a, b), f);
    final-is = λ x area packets steps run f.
        let w : State = record { kept = kept x; running = beside x; area = area; packets = packets } in
        let r = ran steps x w run (record { same-record = refl; same-running = refl }) f in
        (r.alike, r.ends);
    outcome-is = λ g. refl;
    replies-none = refl;
    replies-call = λ g hs. refl;
    replies-fails = λ y hs. refl;
    ends-none = λ x area packets. refl;
    ends-call = λ x area packets now c g ts hs. refl;
    ends-fails = λ x y area packets now p ts hs. refl;
  }
