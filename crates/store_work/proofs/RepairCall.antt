-- A repair, at the record's points: what it hands on where its check refuses, and where it passes.
-- Assumes nothing.
use Prim.Native.Nat.{ℕ, ◌+◌, ◌*◌, ◌-◌}
use mathlib.Core.Path.{◌≡◌, refl, sym, ap, ap₂, ◌∙◌}
use mathlib.Core.Bool.{Bool}
use mathlib.Core.List.{List, []}
use lib.ListN.{length, get_or, drop}
use Rattle.lists.specs.Lists.{join, piece}
use Rattle.sizes.specs.declared.Refusal.{Refusal}
use Rattle.std.specs.Prelude.{Ok, Err}
use Rattle.sizes.specs.Sizing.{α}
use Rattle.sizes.specs.Refusals.{first, store_order, Check}
use Rattle.store_spec.specs.Record.{Record, stripe_count, part_len, with_marks, turn_on}
use Rattle.store_spec.specs.Packets.{repair_packets, total}
use Rattle.store_spec.specs.Calls.{accepted, settle, list_lines, repair_lines, repair_done, repair_call, refused}
use Rattle.beside_spec.specs.Running.{Running, running_by}
use Rattle.beside_spec.specs.Both.{Outcome, beside, repair_lines_both, repair_both, start_call}
use Rattle.store_spec.proofs.Records.{repair-facts, sound-facts}
use Rattle.beside_spec.proofs.Beside.{alone-busy}
use Rattle.store_spec.proofs.Real.{code-lengths}
use Rattle.store_spec.proofs.Repair.{moved-is}
use Rattle.area_puts.specs.Steps.{puts}
use Rattle.repair_stripe.specs.Steps.{rebuilt}
use Rattle.check_repair.proofs.Repairable.{Repairable, repairable}
use Rattle.repair_seam.proofs.Repaired.{named_of, run_of, repaired}
use Rattle.store_work.specs.Handing.{turned_down}
use Rattle.store_work.proofs.Settled.{refused-by, done-by}

-- the work alone, of a repair that passes
module _ (s : Record) (area fresh helpers stand_ins : List ℕ) where
  abbrev alone : Check
  alone = first store_order (repair_lines s (length area) fresh helpers stand_ins)

  pub repair-repairable : alone ≡ Ok tt → Repairable s (length area) fresh helpers stand_ins
  repair-repairable h = repairable s (length area) fresh helpers stand_ins (repair-facts s (length area) fresh helpers stand_ins h)

  -- stripe t of the a-th fresh board
  abbrev pub stripe : ℕ → ℕ → List ℕ
  stripe a t = rebuilt s.sizes s.points (λ j. piece (α s.sizes) t (drop (j * part_len s) area)) fresh (run_of s fresh) (named_of s fresh helpers stand_ins) a

  -- the area with so many stripes of each fresh board in it
  abbrev pub restored : ℕ → List ℕ
  restored count = puts (λ a. get_or fresh a 0 * part_len s) (λ a. join count (stripe a)) (length fresh) area

  pub repair-rebuilds : (after : List ℕ) (count : ℕ) → alone ≡ Ok tt → count ≡ stripe_count s → after ≡ restored count
      → after ≡ (repair_done s area fresh helpers stand_ins).area
  unfolding repair_call
  repair-rebuilds after count h ec ea =
      let taken : (repair_call s area fresh helpers stand_ins).answer.refusal ≡ 0 =
      ap (λ (c : Check). (settle c (refused s area []) (repair_done s area fresh helpers stand_ins)).answer.refusal) h in
      ea ∙ ap restored ec ∙ repaired s area fresh helpers stand_ins (repair-facts s (length area) fresh helpers stand_ins h) taken

  abbrev bytes : ℕ → ℕ
  bytes count = count * length fresh * (2 * s.sizes.d + s.sizes.r - 1)

  pub repair-moves : (moved count : ℕ) → alone ≡ Ok tt → count ≡ stripe_count s → moved ≡ bytes count → moved ≡ total (repair_packets s area fresh helpers stand_ins)
  repair-moves moved count h ec eb =
      let f = repair-facts s (length area) fresh helpers stand_ins h in
      let legal = (sound-facts s f.is-sound).is-legal in
      eb ∙ ap bytes ec ∙ sym (moved-is s area fresh helpers stand_ins (length area) (code-lengths s.points s.sizes legal) f)

module _ (s : Record) (p : Running) (area fresh helpers stand_ins : List ℕ) where
  abbrev pub checked : Check
  checked = first store_order (repair_lines_both s p (length area) fresh helpers stand_ins)

  pub repair-refuses : {r : Check} {x : Refusal} → r ≡ checked → r ≡ Err x → turned_down s p area [] [] x ≡ repair_both s p area fresh helpers stand_ins
  unfolding repair_both
  repair-refuses e h = refused-by (turned_down s p area [] []) (beside p (repair_done s area fresh helpers stand_ins)) e h

  -- the call alone passes too
  pub repair-alone : checked ≡ Ok tt → first store_order (repair_lines s (length area) fresh helpers stand_ins) ≡ Ok tt
  unfolding repair_lines_both repair_lines list_lines
  repair-alone h = (alone-busy s p p.running (drop 1 (repair_lines s (length area) fresh helpers stand_ins)) refl h).0

  -- what the check told
  pub repair-asks : checked ≡ Ok tt → Repairable s (length area) fresh helpers stand_ins
  repair-asks h = repair-repairable s area fresh helpers stand_ins (repair-alone h)

  -- what a repair hands on with this answer, these marks and this area
  abbrev pub mended : ℕ → List Bool → List ℕ → Outcome
  mended moved marks after = beside p (accepted moved (with_marks s marks) after [])

  pub repair-works : (after : List ℕ) (marks : List Bool) (moved : ℕ) → checked ≡ Ok tt → moved ≡ total (repair_packets s area fresh helpers stand_ins)
      → marks ≡ turn_on fresh s.marks → after ≡ (repair_done s area fresh helpers stand_ins).area → mended moved marks after ≡ repair_both s p area fresh helpers stand_ins
  unfolding repair_both
  repair-works after marks moved h eb em ea =
      let done = repair_done s area fresh helpers stand_ins in
      ap₂ (mended moved) em ea ∙ ap (λ (n : ℕ). mended n (turn_on fresh s.marks) done.area) eb ∙ done-by (turned_down s p area [] []) (beside p done) h

  -- ---- start, by the same lines

  -- what a start hands on with this record of a repair
  abbrev begun : Running → Outcome
  begun q = beside q (accepted 0 s area [])

  pub start-refuses : {r : Check} {x : Refusal} → r ≡ checked → r ≡ Err x → turned_down s p area [] [] x ≡ start_call s p area fresh helpers stand_ins
  unfolding start_call
  start-refuses e h = refused-by (turned_down s p area [] []) (begun (running_by fresh helpers stand_ins 0)) e h

  pub start-works : (q : Running) → checked ≡ Ok tt → q ≡ running_by fresh helpers stand_ins 0 → begun q ≡ start_call s p area fresh helpers stand_ins
  unfolding start_call
  start-works q h e = ap begun e ∙ done-by (turned_down s p area [] []) (begun (running_by fresh helpers stand_ins 0)) h
