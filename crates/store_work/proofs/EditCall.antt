-- An edit: what it hands on where its checks refuse, and where they pass.
-- Assumes nothing.
use Prim.Native.Nat.{ℕ, ◌+◌, ◌*◌, ◌≤◌}
use mathlib.Core.Path.{◌≡◌, refl, sym, ap, subst, ◌∙◌}
use mathlib.Core.Bool.{Bool, true, not}
use mathlib.Core.List.{List, [], ◌∷◌}
use native.Mathlib.Omega.{arith}
use lib.ListN.{length, drop}
use borrow.Author.Tests.{eqb-true}
use Rattle.lists.specs.Tests.{given}
use Rattle.lists.proofs.Tests.{not-no}
use Rattle.sizes.specs.declared.Refusal.{Refusal}
use Rattle.sizes.specs.declared.Refusal.TheVariants.{Size, Area, Count, Node, Repeat, Empty, Down, Disagree}
use Rattle.std.specs.Prelude.{Ok, Err}
use Rattle.sizes.specs.Refusals.{◌when◌, first, store_order, Check}
use Rattle.sizes.specs.Sizing.{B}
use Rattle.sizes.proofs.Orders.{clear-off}
use Rattle.board_spec.specs.Calls.{file_of}
use Rattle.store_spec.specs.Record.{Record, serving, put_shares}
use Rattle.store_spec.specs.Calls.{accepted, file_held}
use Rattle.store_spec.specs.Edit.{edit_lines, edited_share, edit_done}
use Rattle.beside_spec.specs.Running.{Running}
use Rattle.beside_spec.specs.Both.{Outcome, beside, edit_lines_both, edit_both}
use Rattle.store_spec.proofs.Records.{sound-facts, reads-by, edit-facts}
use Rattle.beside_spec.proofs.Beside.{both_facts, alone-busy}
use Rattle.line_checks.specs.Steps.{asked}
use Rattle.board_lines.proofs.Chain.{then, split, goes-on, refuses}
use Rattle.store_lines.specs.Steps.{record_of}
use Rattle.check_edit.specs.Steps.{asked_lines}
use Rattle.store_work.specs.Handing.{turned_down}
use Rattle.store_work.specs.Steps.{Readable}
use Rattle.store_work.proofs.Readable.{readable}
use Rattle.store_work.proofs.Settled.{refused-by, done-by}

-- the work alone, of an edit that passes
module _ (s : Record) (area : List ℕ) (offset : ℕ) (bytes boards : List ℕ) where
  abbrev alone : Check
  alone = first store_order (edit_lines s area offset bytes boards)

  pub edit-readable : alone ≡ Ok tt → Readable s (length area) boards
  edit-readable h = readable s (length area) boards (edit-facts s area offset bytes boards h).0

  pub edit-fits : alone ≡ Ok tt → offset + length bytes ≤ s.capacity * B s.sizes
  edit-fits h = let f = edit-facts s area offset bytes boards h in omega (arith, f.1, (sound-facts s f.0.is-sound).fits)

  -- a record that passes has a file
  abbrev pub filed : Bool → Record
  filed written = record_of s.sizes s.points s.capacity written s.length s.marks

  pub edit-written : alone ≡ Ok tt → first store_order (edit_lines (filed true) area offset bytes boards) ≡ Ok tt
  edit-written h =
      subst (λ (w : Bool). first store_order (edit_lines (filed w) area offset bytes boards) ≡ Ok tt) (edit-facts s area offset bytes boards h).0.is-written h

  -- the area that it leaves
  abbrev pub changed : Record → List ℕ
  changed t = put_shares t (edited_share t area (file_of (file_held t area boards)) offset bytes) (serving t) area

  pub edit-changes : (after : List ℕ) → alone ≡ Ok tt → after ≡ changed (filed true) → after ≡ (edit_done s area offset bytes boards).area
  edit-changes after h e = e ∙ ap (λ (w : Bool). changed (filed w)) (sym (edit-facts s area offset bytes boards h).0.is-written)

module _ (s : Record) (p : Running) (area : List ℕ) (offset : ℕ) (bytes boards : List ℕ) where
  abbrev pub checked : Check
  checked = first store_order (edit_lines_both s p area offset bytes boards)

  -- the lines before DISAGREE, and DISAGREE
  abbrev pub begins : Check
  begins = first store_order (asked_lines s p (length area) offset (length bytes) boards)

  abbrev pub agrees : Check
  agrees = asked (Disagree when not (given (file_held s area boards)))

  in-turn : then begins agrees ≡ checked
  unfolding edit_lines_both edit_lines
  in-turn = sym (split (asked_lines s p (length area) offset (length bytes) boards) (Disagree when not (given (file_held s area boards)) ∷ []))

  pub edit-refuses : {r : Check} {x : Refusal} → r ≡ begins → r ≡ Err x → turned_down s p area [] [] x ≡ edit_both s p area offset bytes boards
  unfolding edit_both
  edit-refuses e h = refused-by (turned_down s p area [] []) (beside p (edit_done s area offset bytes boards)) (refuses agrees in-turn e h) refl

  pub edit-disagrees : {r q : Check} {x : Refusal} → r ≡ begins → r ≡ Ok tt → q ≡ agrees → q ≡ Err x → turned_down s p area [] [] x ≡ edit_both s p area offset bytes boards
  unfolding edit_both
  edit-disagrees e h d k = refused-by (turned_down s p area [] []) (beside p (edit_done s area offset bytes boards)) (d ∙ goes-on in-turn e h) k

  pub edit-passes : {r q : Check} → r ≡ begins → r ≡ Ok tt → q ≡ agrees → q ≡ Ok tt → checked ≡ Ok tt
  edit-passes e h d k = sym (d ∙ goes-on in-turn e h) ∙ k

  -- what the lines before DISAGREE told
  pub edit-asks : begins ≡ Ok tt → Readable s (length area) boards
  edit-asks h =
      let off = clear-off (asked_lines s p (length area) offset (length bytes) boards) store_order h in
      readable s (length area) boards
      (reads-by s (length area) s.sizes.k boards (both_facts s p (off Size refl)).0 (off Area refl) (off Empty refl) (eqb-true _ _ (not-no _ (off Count refl))) (off Node refl)
      (off Repeat refl) (off Down refl))

  -- the call alone passes too
  pub edit-alone : checked ≡ Ok tt → first store_order (edit_lines s area offset bytes boards) ≡ Ok tt
  unfolding edit_lines_both edit_lines
  edit-alone h = (alone-busy s p p.running (drop 1 (edit_lines s area offset bytes boards)) refl h).0

  -- what an edit hands on with this area
  abbrev pub left : List ℕ → Outcome
  left after = beside p (accepted 0 s after [])

  pub edit-works : (after : List ℕ) → checked ≡ Ok tt → after ≡ (edit_done s area offset bytes boards).area → left after ≡ edit_both s p area offset bytes boards
  unfolding edit_both
  edit-works after h e = ap left e ∙ done-by (turned_down s p area [] []) (beside p (edit_done s area offset bytes boards)) h
