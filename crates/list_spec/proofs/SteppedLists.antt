-- Lists along which a repair goes on, one event after another.
-- Assumes nothing.
use Prim.Native.Nat.{ℕ, ◌+◌, ◌*◌, ◌<◌, min}
use native.Mathlib.Nat.{zero-add, zero-min, zero-mul}
use mathlib.Core.Path.{◌≡◌, refl, sym, ap, ◌∙◌, subst}
use mathlib.Core.Bool.{Bool, true}
use mathlib.Core.Logic.{◌≢◌, ◌↔◌}
use mathlib.Core.List.{List, [], ◌∷◌, ◌++◌}
use lib.ListN.{length, take, get_or}
use borrow.Author.Tests.{eq-eqb, ne_eqb}
use Rattle.lists.specs.Tests.{pick}
use Rattle.sizes.specs.Sizing.{α, stripes}
use Rattle.store_spec.specs.Record.{Record, in_service, stripe_count}
use Rattle.beside_spec.specs.Running.{Running, fresh_of}
use Rattle.beside_spec.specs.Lying.{place_of}
use Rattle.beside_spec.specs.Acting.{write, lose, repair, read, edit, start, step, careful, move, State, act}
use Rattle.ledger_spec.specs.Ledger.{Event, call, power_fails, Step, lent, next}
use Rattle.list_spec.specs.Stepped.{SamePackets, SameLent, IsCall, lost_by, lost, carried_at, carried_in, SteppedLists}
use Rattle.ledger_spec.proofs.Premises.{parts-agree, begins-alike}

-- ---- what may not be altered

same-packets : (s : Record) (p : Running) (old new : List ℕ) → length new ≡ length old → length old ≡ stripes s.sizes s.length * length (fresh_of p) * α s.sizes
    → SamePackets s p old new
    ↔ ((x : ℕ) → x < (p.carried + min p.carried (length (fresh_of p) * s.sizes.d)) * stripes s.sizes s.length → get_or new x 0 ≡ get_or old x 0)
same-packets s p old new l m =
    let place : ℕ = place_of s (length (fresh_of p)) p.carried in
    ((λ h. (begins-alike place old new l).0 (h (l ∙ m))), (λ h e. (begins-alike place old new l).1 h))

-- before the first packet nothing is compared
first-packets : (s : Record) (p : Running) (old new : List ℕ) → p.carried ≡ 0 → SamePackets s p old new
first-packets s p old new z e =
    let t : ℕ = length (fresh_of p) in
    let q : place_of s t p.carried ≡ 0 =
    ap (place_of s t) z ∙ ap (λ (m : ℕ). (0 + m) * stripe_count s) (zero-min (t * s.sizes.d)) ∙ zero-mul (stripe_count s) in
    ap (λ (m : ℕ). take m new) q ∙ sym (ap (λ (m : ℕ). take m old) q)

-- a step is lent the same packets; of any other event nothing is asked
lent-there : (w : State) (e : Event) → SameLent w e → (allowance : ℕ) (packets : List ℕ) → e ≡ call (step allowance packets) → SamePackets w.kept w.running w.packets packets
lent-there w e h allowance packets q = subst (SameLent w) q h

lent_back : (w : State) (e : Event) → ((allowance : ℕ) (packets : List ℕ) → e ≡ call (step allowance packets) → SamePackets w.kept w.running w.packets packets) → SameLent w e
lent_back w (call (write file)) h = tt
lent_back w (call (lose board)) h = tt
lent_back w (call (repair fresh helpers stand_ins)) h = tt
lent_back w (call (read boards output)) h = tt
lent_back w (call (edit offset bytes boards)) h = tt
lent_back w (call (start fresh helpers stand_ins)) h = tt
lent_back w (call (step allowance packets)) h = h allowance packets refl
lent_back w (call (careful boards output)) h = tt
lent_back w (call (move board point helpers partners)) h = tt
lent_back w (power_fails p) h = tt

-- ---- an event is a call exactly where it is no power failure

call-there : (e : Event) → IsCall e → (p : Running) → e ≢ power_fails p
call-there e h p q = subst IsCall q h

call_back : (e : Event) → ((p : Running) → e ≢ power_fails p) → IsCall e
call_back (call c) h = tt
call_back (power_fails p) h = h p refl

-- ---- what was lost, and what was carried

lost-taken : (w : State) (board : ℕ) → (act w (lose board)).answer.refusal ≡ 0 → lost_by w (call (lose board)) ≡ board ∷ []
lost-taken w board h = ap (λ (b : Bool). pick b (board ∷ []) []) (eq-eqb (act w (lose board)).answer.refusal 0 h)

lost-not : (w : State) (board : ℕ) → (act w (lose board)).answer.refusal ≢ 0 → lost_by w (call (lose board)) ≡ []
lost-not w board h = ap (λ (b : Bool). pick b (board ∷ []) []) (ne_eqb (act w (lose board)).answer.refusal 0 h)

lost-else : (w : State) (e : Event) → ((board : ℕ) → e ≢ call (lose board)) → lost_by w e ≡ []
lost-else w (call (write file)) h = refl
lost-else w (call (lose board)) h = absurd (h board refl)
lost-else w (call (repair fresh helpers stand_ins)) h = refl
lost-else w (call (read boards output)) h = refl
lost-else w (call (edit offset bytes boards)) h = refl
lost-else w (call (start fresh helpers stand_ins)) h = refl
lost-else w (call (step allowance packets)) h = refl
lost-else w (call (careful boards output)) h = refl
lost-else w (call (move board point helpers partners)) h = refl
lost-else w (power_fails p) h = refl

carried-else : (w : State) (e : Event) → ((allowance : ℕ) (packets : List ℕ) → e ≢ call (step allowance packets)) → carried_at w e ≡ 0
carried-else w (call (write file)) h = refl
carried-else w (call (lose board)) h = refl
carried-else w (call (repair fresh helpers stand_ins)) h = refl
carried-else w (call (read boards output)) h = refl
carried-else w (call (edit offset bytes boards)) h = refl
carried-else w (call (start fresh helpers stand_ins)) h = refl
carried-else w (call (step allowance packets)) h = absurd (h allowance packets refl)
carried-else w (call (careful boards output)) h = refl
carried-else w (call (move board point helpers partners)) h = refl
carried-else w (power_fails p) h = refl

-- behind what an event lost, and what it carried
behind-lost : (w : State) (t : Step) (ts : List Step) (l : List ℕ) → lost_by (lent w t) t.event ≡ l → lost w (t ∷ ts) ≡ l ++ lost (next (lent w t) t.event) ts
behind-lost w t ts l e = ap (λ (k : List ℕ). k ++ lost (next (lent w t) t.event) ts) e

behind-carried : (w : State) (t : Step) (ts : List Step) (m : ℕ) → carried_at (lent w t) t.event ≡ m → carried_in w (t ∷ ts) ≡ m + carried_in (next (lent w t) t.event) ts
behind-carried w t ts m e = ap (λ (k : ℕ). k + carried_in (next (lent w t) t.event) ts) e

pub stepped-lists : SteppedLists
stepped-lists = record {
  same-boards = λ s old new. (
    (λ h. (h.0, (parts-agree (λ i. in_service s i ≡ true) s old new h.0).0 h.1)),
    (λ h. (h.0, (parts-agree (λ i. in_service s i ≡ true) s old new h.0).1 h.1)),
  );
  same-packets = same-packets;
  first-packets = first-packets;
  other-packets = λ s p old new h e. absurd (h e);
  boards-none = λ w. tt;
  boards-more = λ w t ts. ((λ h. h), (λ h. h));
  packets-none = λ w. tt;
  packets-more = λ w t ts. ((λ h. (lent-there w t.event h.0, h.1)), (λ h. (lent_back w t.event h.0, h.1)));
  goes_none = λ w. tt;
  goes-more = λ w t ts. ((λ h. (call-there t.event h.0, h.1, h.2)), (λ h. (call_back t.event h.0, h.1, h.2)));
  lost-none = λ w. refl;
  lost_one = λ w board t ts e h. behind-lost w t ts (board ∷ []) (ap (lost_by (lent w t)) e ∙ lost-taken (lent w t) board h);
  lost-refused = λ w board t ts e h. behind-lost w t ts [] (ap (lost_by (lent w t)) e ∙ lost-not (lent w t) board h);
  lost-other = λ w t ts h. behind-lost w t ts [] (lost-else (lent w t) t.event h);
  carried_none = λ w. refl;
  carried-one = λ w allowance packets t ts e. behind-carried w t ts _ (ap (carried_at (lent w t)) e);
  carried_other = λ w t ts h. behind-carried w t ts 0 (carried-else (lent w t) t.event h) ∙ zero-add _;
}
