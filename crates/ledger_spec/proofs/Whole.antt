-- The last step of a repair whose packets carried lie as the whole repair's leaves what the whole repair would leave.
-- Assumes nothing.
use Prim.Native.Nat.{ℕ, ◌+◌, ◌-◌, ◌≤◌}
use mathlib.Core.Path.{◌≡◌, refl, sym, ◌∙◌, ap}
use mathlib.Core.Bool.{Bool, true, false, not}
use mathlib.Core.List.{List, [], ◌∷◌}
use native.Mathlib.Omega.{arith}
use lib.Dec.{eqb, ltb}
use lib.ListN.{length}
use borrow.Author.Tests.{le-leb, eq-eqb, lt-ltb}
use Rattle.lists.specs.Tests.{pick, alls}
use Rattle.lists.proofs.Tests.{hold-alls}
use Rattle.std.specs.Prelude.{Ok}
use Rattle.sizes.specs.Refusals.{said, first, store_order}
use Rattle.sizes.specs.declared.Refusal.TheVariants.{Area, Empty, Count, Node, Repeat, Serving, Down}
use Rattle.sizes.proofs.Orders.{◌also◌, clear-off, off-pass}
use Rattle.store_spec.specs.Record.{Record, sound, with_marks, turn_on, area_len, put_shares}
use Rattle.store_spec.specs.Calls.{repair_lines, list_lines, repair_done}
use Rattle.beside_spec.specs.Running.{Running, idle, fresh_of, helpers_of, stand_ins_of, packet_count, packets_len, passed, sound_beside}
use Rattle.beside_spec.specs.Lying.{share_lying, carry}
use Rattle.beside_spec.specs.Both.{Outcome, beside, repair_lines_both, repair_both, step_lines, left_of, step_call}
use Rattle.ledger_spec.specs.Demand3.{WholeStep}
use Rattle.beside_spec.proofs.Beside.{lists-pass}
use Rattle.beside_spec.proofs.Carried.{Lies}
use Rattle.store_spec.proofs.Records.{Repairs, repair-facts}
use Rattle.store_spec.proofs.Seam.{Lengths}
use Rattle.store_spec.proofs.Passed.{settle-pass}
use Rattle.ledger_spec.proofs.StepCarry.{step-by, last-packets, last-area}

-- a repair that its lists allow is taken where none runs
pub idle-taken : (s : Record) (area fresh helpers stand_ins : List ℕ) → first store_order (repair_lines s (length area) fresh helpers stand_ins) ≡ Ok tt
    → repair_both s idle area fresh helpers stand_ins ≡ beside idle (repair_done s area fresh helpers stand_ins)
unfolding repair_both repair_lines_both repair_lines list_lines sound_beside
idle-taken s area fresh helpers stand_ins pass =
    let off = clear-off (repair_lines s (length area) fresh helpers stand_ins) store_order pass in
    let f = repair-facts s (length area) fresh helpers stand_ins pass in
    let z : not (alls (sound s ∷ sound_beside s idle ∷ [])) ≡ false = ap not (hold-alls (sound s ∷ sound_beside s idle ∷ []) (f.is-sound, (refl, tt))) in
    let q : first store_order (repair_lines_both s idle (length area) fresh helpers stand_ins) ≡ (Ok tt) =
    off-pass (repair_lines_both s idle (length area) fresh helpers stand_ins) store_order
    (z
    also refl
    also off Area refl
    also off Empty refl
    also off Count refl
    also off Node refl
    also off Repeat refl
    also off Serving refl
    also off Down refl
    also tt) in
    settle-pass _ _ _ q

module _ (s : Record) (p : Running) (area lent : List ℕ) (allowance : ℕ) (fresh helpers stand_ins : List ℕ) (left : ℕ)
    (pass : first store_order (repair_lines s (length area) fresh helpers stand_ins) ≡ Ok tt)
    (runs : p.running ≡ true) (a : fresh_of p ≡ fresh) (c : helpers_of s.sizes p ≡ helpers) (d : stand_ins_of s.sizes p ≡ stand_ins)
    (some_left : 1 ≤ left) (all : p.carried + left ≡ packet_count s.sizes (length fresh)) (enough : left ≤ allowance) (laws : Lengths s.points s.sizes) where
  abbrev pub f : Repairs s (length area) fresh helpers stand_ins
  f = repair-facts s (length area) fresh helpers stand_ins pass

  left_is : left_of s p area lent ≡ left
  left_is = ap (λ (l : List ℕ). packet_count s.sizes (length l) - p.carried) a ∙ omega (arith, all)

  beside-is : sound_beside s p ≡ true
  unfolding sound_beside
  beside-is =
      let t : passed (first store_order (list_lines s (fresh_of p) (helpers_of s.sizes p) (stand_ins_of s.sizes p))) ≡ true =
      ap (λ (x : List ℕ). passed (first store_order (list_lines s x (helpers_of s.sizes p) (stand_ins_of s.sizes p)))) a
      ∙ ap (λ (x : List ℕ). passed (first store_order (list_lines s fresh x (stand_ins_of s.sizes p)))) c
      ∙ ap (λ (x : List ℕ). passed (first store_order (list_lines s fresh helpers x))) d
      ∙ ap passed (lists-pass s (length area) fresh helpers stand_ins pass) in
      let u : ltb p.carried (packet_count s.sizes (length (fresh_of p))) ≡ true =
      ap (λ (l : List ℕ). ltb p.carried (packet_count s.sizes (length l))) a ∙ lt-ltb p.carried (packet_count s.sizes (length fresh)) (omega (arith, all, some_left)) in
      rw runs (hold-alls
      (passed (first store_order (list_lines s (fresh_of p) (helpers_of s.sizes p) (stand_ins_of s.sizes p))) ∷ ltb p.carried (packet_count s.sizes (length (fresh_of p))) ∷ [])
      (t, (u, tt)))

  module _ (l : Lies s area fresh helpers stand_ins (length area) laws f p.carried lent) where
    step-pass : first store_order (step_lines s p (length area) (length lent)) ≡ Ok tt
    unfolding step_lines
    step-pass =
        let two : List Bool = eqb (length area) (area_len s) ∷ pick p.running (eqb (length lent) (packets_len s (length (fresh_of p)))) true ∷ [] in
        let m : pick p.running (eqb (length lent) (packets_len s (length (fresh_of p)))) true ≡ true =
        ap (λ (t : Bool). pick t (eqb (length lent) (packets_len s (length (fresh_of p)))) true) runs
        ∙ eq-eqb _ _ (l.long ∙ ap (λ (x : List ℕ). packets_len s (length x)) (sym a)) in
        off-pass (step_lines s p (length area) (length lent)) store_order
        (ap not (hold-alls (sound s ∷ sound_beside s p ∷ []) (f.is-sound, (beside-is, tt)))
        also ap not (hold-alls two (eq-eqb _ _ f.area-is, (m, tt)))
        also ap not f.is-written
        also ap not runs
        also tt)

    abbrev ends : Outcome
    ends = record {
      answer = said (Ok left);
      handed = with_marks s (turn_on fresh s.marks);
      running = idle;
      area = put_shares s (share_lying s fresh helpers stand_ins (carry s fresh helpers stand_ins area p.carried left lent)) fresh area;
      output = [];
      packets = carry s fresh helpers stand_ins area p.carried left lent;
    }

    step_is : step_call s p area lent allowance ≡ ends
    unfolding step_call
    step_is =
        settle-pass _ _ _ step-pass
        ∙ step-by s p area lent allowance fresh helpers stand_ins left a c d left_is
        ∙ ap (λ (t : Bool). pick t ends (record {
          answer = said (Ok allowance);
          handed = s;
          running = record { running = p.running; count = p.count; carried = p.carried + allowance; fresh = p.fresh; helpers = p.helpers; stand_ins = p.stand_ins };
          area = area;
          output = [];
          packets = carry s fresh helpers stand_ins area p.carried allowance lent;
        })) (le-leb left allowance enough)

    pub whole-step : WholeStep s p area lent allowance fresh helpers stand_ins left
    whole-step =
        let w = idle-taken s area fresh helpers stand_ins pass in
        record {
          answers = ap (λ (o : Outcome). o.answer) step_is;
          would-be-taken = ap (λ (o : Outcome). o.answer.refusal) w;
          same-record = ap (λ (o : Outcome). o.handed) step_is ∙ sym (ap (λ (o : Outcome). o.handed) w);
          same-running = ap (λ (o : Outcome). o.running) step_is ∙ sym (ap (λ (o : Outcome). o.running) w);
          same_area = ap (λ (o : Outcome). o.area) step_is ∙ last-area s area fresh helpers stand_ins laws f p.carried left lent all l ∙ sym (ap (λ (o : Outcome). o.area) w);
          same-packets = ap (λ (o : Outcome). o.packets) step_is ∙ last-packets s area fresh helpers stand_ins laws f p.carried left lent all l;
        }
