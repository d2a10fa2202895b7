-- What demand 3 says, said of what the methods gave.
-- Assumes nothing.
use mathlib.Core.Path.{◌≡◌, refl, sym, ap, ◌∙◌}
use mathlib.Core.List.{List, [], ◌∷◌, ◌++◌}
use Prim.Native.Nat.{ℕ}
use Rattle.sizes.specs.Refusals.{Said}
use Rattle.store_spec.specs.Record.{held}
use Rattle.store_spec.specs.Calls.{repair_call}
use Rattle.beside_spec.specs.Both.{Outcome, beside, repair_both}
use Rattle.beside_spec.specs.Acting.{repair, act}
use Rattle.ledger_spec.specs.Ledger.{call, power_fails, Step}
use Rattle.store_spec.specs.RepairLaws.{Repaired}
use Rattle.list_spec.specs.Follows.{Given, Moment, gave, anew, Follows, handed_on, area_at, packets_at, ending}
use Rattle.beside_spec.proofs.Beside.{accepted-both}
use Rattle.list_spec.proofs.Follows.{follows-laws}
use Rattle.store.specs.Demand3.{Records, kept_in, beside_in, Meets}
use Rattle.store.specs.Gives.{CodeGives}

module _ (x : Records) (area fresh helpers stand_ins : List ℕ) (g : Given Records) (m : Meets x area (repair fresh helpers stand_ins) g) (ok : g.answer.refusal ≡ 0) where
  is-repaired : (repair_both (kept_in x) (beside_in x) area fresh helpers stand_ins ≡ beside (beside_in x) (repair_call (kept_in x) area fresh helpers stand_ins))
      × Repaired (kept_in x) area fresh helpers stand_ins
  unfolding act
  is-repaired = accepted-both (kept_in x) (beside_in x) area fresh helpers stand_ins (ap (λ (o : Outcome). o.answer.refusal) (sym m) ∙ ok)

-- a run ends where the last of its events ended
ends_last : (ts : List Step) (run : List (Moment Records)) (x : Records) (area packets : List ℕ) → Follows Records kept_in beside_in x ts run → (t : Step) (h : Moment Records)
    → ending Records kept_in beside_in x area packets (ts ++ (t ∷ [])) (run ++ (h ∷ []))
    ≡ ending Records kept_in beside_in (handed_on Records kept_in beside_in h) (area_at Records kept_in beside_in t.area h)
    (packets_at Records kept_in beside_in (ending Records kept_in beside_in x area packets ts run).packets t.event h) [] []
ends_last [] [] x area packets r t h = refl
ends_last [] (m ∷ ms) x area packets r t h = absurd r
ends_last (u ∷ us) [] x area packets r t h = absurd r
ends_last (u ∷ us) (m ∷ ms) x area packets r t h =
    ends_last us ms (handed_on Records kept_in beside_in m) (area_at Records kept_in beside_in u.area m) (packets_at Records kept_in beside_in packets u.event m) r.1 t h

pub code_gives : CodeGives
unfolding act
code_gives = record {
  record_is = λ s. refl;
  running-is = λ p. refl;
  handed-is = λ h area output packets. refl;
  gave-is = λ h area output packets. refl;
  runs = follows-laws Records kept_in beside_in;
  ending-none = λ x area. refl;
  ending-last = λ x area ts run r now c g. ends_last ts run x area [] r (record { area = now; event = call c }) (gave g);
  ending-fails = λ x area ts run r now p y. ends_last ts run x area [] r (record { area = now; event = power_fails p }) (anew y);
  reads = λ x area packets b k lent a boards output count diff up room g m. m ∙ k.gives lent a boards output count diff up room;
  finishes = λ x area packets b k r e lent a lying long same allowance most g m.
      let w = k.finishes r e lent a lying long same allowance most in (
        w.would-be-taken,
        ap (λ (o : Outcome). o.answer) m ∙ w.answers,
        ap (λ (o : Outcome). o.handed) m ∙ w.same-record,
        ap (λ (o : Outcome). o.running) m ∙ w.same-running,
        ap (λ (o : Outcome). o.area) m ∙ w.same_area,
        ap (λ (o : Outcome). o.packets) m ∙ w.same-packets,
      );
  moved = λ x area fresh helpers stand_ins g m ok.
      let p = is-repaired x area fresh helpers stand_ins g m ok in
      ap (λ (o : Outcome). o.answer.reported) (m ∙ p.0) ∙ ap (λ (a : Said). a.reported) p.1.moved ∙ p.1.moved-is;
  has = λ x area fresh helpers stand_ins g m ok i e.
      let p = is-repaired x area fresh helpers stand_ins g m ok in
      ap (λ (o : Outcome). held (kept_in x) o.area i) (m ∙ p.0) ∙ p.1.has i e;
}
