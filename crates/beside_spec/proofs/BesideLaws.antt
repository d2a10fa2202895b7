-- A careful read, a move and the calls that are BUSY, beside the record of a repair.
-- Assumes nothing.
use Prim.Native.Nat.{ℕ}
use mathlib.Core.Path.{◌≡◌, refl, sym, ◌∙◌, ap}
use mathlib.Core.Bool.{true, false, not}
use mathlib.Core.Logic.{◌↔◌}
use mathlib.Core.List.{List, [], ◌∷◌}
use lib.ListN.{length, drop}
use Rattle.lists.proofs.Tests.{not-no, true-false, hold-alls}
use Rattle.sizes.specs.Refusals.{first, store_order}
use Rattle.std.specs.Prelude.{Ok}
use Rattle.sizes.specs.declared.Refusal.TheVariants.{Size, Area, Count, Node, Repeat, Empty, Down}
use Rattle.store_spec.specs.Calls.{StoreOutcome, accepted, list_lines, write_lines, write_done, repair_lines, repair_done}
use Rattle.store_spec.specs.Careful.{careful_call}
use Rattle.store_spec.specs.Record.{Record, sound}
use Rattle.beside_spec.specs.Both.{careful_both, Outcome, beside, move_lines_both, move_both, write_lines_both, repair_lines_both, edit_lines_both, write_both, repair_both, start_call}
use Rattle.beside_spec.specs.Both.{edit_both}
use Rattle.beside_spec.proofs.AloneLaws.{alone-is, alone-laws}
use Rattle.sizes.proofs.Orders.{◌also◌, clear-off, off-pass}
use Rattle.beside_spec.specs.Running.{Running, sound_beside, running_by}
use Rattle.store_spec.specs.Move.{move_lines, move_done, move_call}
use Rattle.beside_spec.proofs.Beside.{alone-busy, both-done}
use Rattle.store_spec.proofs.Passed.{passes, settle-pass}
use Rattle.store_spec.specs.Edit.{edit_lines, edit_done}
use Rattle.beside_spec.specs.BesideLaws.{CarefulBeside, MoveBeside, BusyBeside}

module _ (s : Record) (p : Running) (area : List ℕ) (board new : ℕ) (helpers partners : List ℕ) where
  both-there : (move_both s p area board new helpers partners).answer.refusal ≡ 0
      → (first store_order (move_lines s (length area) board new helpers partners) ≡ Ok tt) × (p.running ≡ false)
      × (move_both s p area board new helpers partners ≡ beside p (move_done s area board new helpers partners))
  unfolding move_both move_lines_both move_lines
  both-there h =
      let q = both-done (first store_order (move_lines_both s p (length area) board new helpers partners)) s p area [] [] (beside p (move_done s area board new helpers partners)) h in
      let a = alone-busy s p p.running (drop 1 (move_lines s (length area) board new helpers partners)) refl q in
      (a.0, a.1, settle-pass _ _ _ q)

  is-moved : first store_order (move_lines s (length area) board new helpers partners) ≡ Ok tt → move_call s area board new helpers partners ≡ move_done s area board new helpers partners
  unfolding move_call
  is-moved e = settle-pass _ _ _ e

  both-back : (move_call s area board new helpers partners).answer.refusal ≡ 0 → p.running ≡ false → (move_both s p area board new helpers partners).answer.refusal ≡ 0
  unfolding move_both move_lines_both move_lines move_call sound_beside
  both-back h r =
      let q = passes (first store_order (move_lines s (length area) board new helpers partners)) s area [] (move_done s area board new helpers partners) h in
      let off = clear-off (move_lines s (length area) board new helpers partners) store_order q in
      let b : first store_order (move_lines_both s p (length area) board new helpers partners) ≡ (Ok tt) =
      off-pass (move_lines_both s p (length area) board new helpers partners) store_order
      (ap not (hold-alls (sound s ∷ sound_beside s p ∷ []) (not-no _ (off Size refl), (rw r refl, tt)))
      also r
      also off Area refl
      also off Empty refl
      also off Count refl
      also off Node refl
      also off Repeat refl
      also off Down refl
      also tt) in
      ap (λ (o : Outcome). o.answer.refusal) (settle-pass _ _ _ b)

  taken-beside : ((move_both s p area board new helpers partners).answer.refusal ≡ 0)
      ↔ (((move_call s area board new helpers partners).answer.refusal ≡ 0) × (p.running ≡ false))
  taken-beside = (
    (λ h. let k = both-there h in (ap (λ (o : StoreOutcome). o.answer.refusal) (is-moved k.0), k.1)),
    (λ k. both-back k.0 k.1),
  )

  same_beside : (move_both s p area board new helpers partners).answer.refusal ≡ 0
      → move_both s p area board new helpers partners ≡ beside p (move_call s area board new helpers partners)
  same_beside h = let k = both-there h in k.2 ∙ ap (beside p) (sym (is-moved k.0))

-- ---- calls that are BUSY

module _ (s : Record) (p : Running) (area : List ℕ) (runs : p.running ≡ true) where
  write-busy : (file : List ℕ) → (write_both s p area file).answer.refusal ≡ 0 → ⊥
  unfolding write_both write_lines_both write_lines
  write-busy file h =
      let q = both-done (first store_order (write_lines_both s p (length area) file)) s p area [] [] (beside p (write_done s area file)) h in
      true-false runs (alone-busy s p p.running (drop 1 (write_lines s (length area) file)) refl q).1

  repair-busy : (fresh helpers stand_ins : List ℕ) → (repair_both s p area fresh helpers stand_ins).answer.refusal ≡ 0 → ⊥
  unfolding repair_both repair_lines_both repair_lines list_lines
  repair-busy fresh helpers stand_ins h =
      let q = both-done (first store_order (repair_lines_both s p (length area) fresh helpers stand_ins)) s p area [] [] (beside p (repair_done s area fresh helpers stand_ins)) h in
      true-false runs (alone-busy s p p.running (drop 1 (repair_lines s (length area) fresh helpers stand_ins)) refl q).1

  start-busy : (fresh helpers stand_ins : List ℕ) → (start_call s p area fresh helpers stand_ins).answer.refusal ≡ 0 → ⊥
  unfolding start_call repair_lines_both repair_lines list_lines
  start-busy fresh helpers stand_ins h =
      let q = both-done (first store_order (repair_lines_both s p (length area) fresh helpers stand_ins)) s p area [] [] (beside (running_by fresh helpers stand_ins 0) (accepted 0 s area [])) h in
      true-false runs (alone-busy s p p.running (drop 1 (repair_lines s (length area) fresh helpers stand_ins)) refl q).1

  edit-busy : (offset : ℕ) (bytes boards : List ℕ) → (edit_both s p area offset bytes boards).answer.refusal ≡ 0 → ⊥
  unfolding edit_both edit_lines_both edit_lines
  edit-busy offset bytes boards h =
      let q = both-done (first store_order (edit_lines_both s p area offset bytes boards)) s p area [] [] (beside p (edit_done s area offset bytes boards)) h in
      true-false runs (alone-busy s p p.running (drop 1 (edit_lines s area offset bytes boards)) refl q).1

pub careful-beside : CarefulBeside
careful-beside = record {
  same_beside = λ s p area boards output h. alone-is p (careful_call s area boards output) (careful_both s p area boards output) (alone-laws.careful-alone s p area boards output h);
}

pub move-beside : MoveBeside
move-beside = record {
  taken-beside = λ s p area board point helpers partners. taken-beside s p area board point helpers partners;
  same_beside = λ s p area board point helpers partners h. same_beside s p area board point helpers partners h;
}

pub busy-beside : BusyBeside
busy-beside = record {
  write-busy = λ s p area file runs. write-busy s p area runs file;
  repair-busy = λ s p area fresh helpers stand_ins runs. repair-busy s p area runs fresh helpers stand_ins;
  start-busy = λ s p area fresh helpers stand_ins runs. start-busy s p area runs fresh helpers stand_ins;
  edit-busy = λ s p area offset bytes boards runs. edit-busy s p area runs offset bytes boards;
}
