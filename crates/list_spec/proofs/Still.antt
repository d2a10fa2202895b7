-- What an event does to the store while a repair runs and goes on running: nothing; or a board that is not named is lost; or packets are carried, not the last.
-- Assumes nothing.
use Prim.Native.Nat.{ℕ, ◌+◌, ◌<◌}
use mathlib.Core.Path.{◌≡◌, refl, sym, ◌∙◌, ap, ap₂}
use mathlib.Core.Bool.{Bool, true, false}
use mathlib.Core.List.{List, [], ◌∷◌}
use native.Mathlib.Omega.{arith}
use lib.Dec.{leb, eqb}
use lib.ListN.{length, drop, set}
use borrow.Author.Tests.{leb-false, ne_eqb}
use Rattle.lists.specs.Tests.{pick, alls, among}
use Rattle.lists.proofs.Tests.{true-false}
use Rattle.std.specs.Prelude.{Ok, Err}
use Rattle.sizes.specs.declared.Refusal.{Refusal}
use Rattle.sizes.specs.declared.Refusal.TheVariants.{Busy}
use Rattle.sizes.specs.Refusals.{said, number, Line, ◌when◌, first, store_order, Check}
use Rattle.sizes.proofs.Laws.{number-low}
use Rattle.sizes.proofs.Orders.{clear-off}
use Rattle.store_spec.specs.Record.{Record, with_marks}
use Rattle.beside_spec.specs.Running.{Running, idle, with_carried, named_in}
use Rattle.store_spec.specs.Calls.{write_lines, repair_lines}
use Rattle.store_spec.specs.Edit.{edit_lines}
use Rattle.store_spec.specs.Move.{move_lines}
use Rattle.beside_spec.specs.Both.{Outcome, both_line, lost_beside, write_lines_both, lose_lines_both, repair_lines_both, edit_lines_both, move_lines_both, step_lines, left_of, carried_on, step_last, step_on}
use Rattle.beside_spec.specs.BothCalls.{store_lines, store_done}
use Rattle.list_spec.specs.Stepped.{lost_by, carried_at, IsCall}
use Rattle.beside_spec.specs.Acting.{Call, write, lose, repair, read, edit, start, step, careful, move, State, act, output_of, packets_of_call}
use Rattle.ledger_spec.specs.Ledger.{Event, call, power_fails, packets_after, next}
use Rattle.beside_spec.proofs.BothCalls.{by, act-is}

pub data Still (w : State) (e : Event) : Type 0 where
  same : next w e ≡ w → lost_by w e ≡ [] → carried_at w e ≡ 0 → Still w e
  less : (board : ℕ) → first store_order (lose_lines_both w.kept w.running board) ≡ Ok tt → among (named_in w.kept.sizes w.running) board ≡ false
      → next w e ≡ record { kept = with_marks w.kept (set w.kept.marks board false); running = w.running; area = w.area; packets = w.packets }
      → lost_by w e ≡ board ∷ [] → carried_at w e ≡ 0 → Still w e
  more : (allowance : ℕ) (packets : List ℕ) → e ≡ call (step allowance packets)
      → first store_order (step_lines w.kept w.running (length w.area) (length packets)) ≡ Ok tt → allowance < left_of w.kept w.running w.area packets
      → next w e
      ≡ record { kept = w.kept; running = with_carried w.running (w.running.carried + allowance); area = w.area; packets = carried_on w.kept w.running w.area packets allowance }
      → lost_by w e ≡ [] → carried_at w e ≡ allowance → Still w e

-- a refusal leaves the state
abbrev refused_at : State → Call → Refusal → Outcome
refused_at w c x = record { answer = said (Err x); handed = w.kept; running = w.running; area = w.area; output = output_of c; packets = packets_of_call c }

packets-stay : (w : State) (c : Call) (x : Refusal) → packets_after w.packets c (refused_at w c x) ≡ w.packets
packets-stay w (write file) x = refl
packets-stay w (lose board) x = refl
packets-stay w (repair fresh helpers stand_ins) x = refl
packets-stay w (read boards output) x = refl
packets-stay w (edit offset bytes boards) x = refl
packets-stay w (start fresh helpers stand_ins) x = refl
packets-stay w (step allowance packets) x = ap (λ (t : Bool). pick t packets w.packets) (ne_eqb (number x) 0 (λ e. omega (arith, e, number-low x)))
packets-stay w (careful boards output) x = refl
packets-stay w (move board point helpers partners) x = refl

-- the state after an outcome
abbrev left : State → Call → Outcome → State
left w c o = record { kept = o.handed; running = o.running; area = o.area; packets = packets_after w.packets c o }

none-lost : (w : State) (c : Call) (x : Refusal) → act w c ≡ refused_at w c x → lost_by w (call c) ≡ []
none-lost w (write file) x e = refl
none-lost w (lose board) x e =
    ap (λ (o : Outcome). pick (eqb o.answer.refusal 0) (board ∷ []) []) e
    ∙ ap (λ (t : Bool). pick t (board ∷ []) []) (ne_eqb (number x) 0 (λ e. omega (arith, e, number-low x)))
none-lost w (repair fresh helpers stand_ins) x e = refl
none-lost w (read boards output) x e = refl
none-lost w (edit offset bytes boards) x e = refl
none-lost w (start fresh helpers stand_ins) x e = refl
none-lost w (step allowance packets) x e = refl
none-lost w (careful boards output) x e = refl
none-lost w (move board point helpers partners) x e = refl

none-carried : (w : State) (c : Call) (x : Refusal) → act w c ≡ refused_at w c x → carried_at w (call c) ≡ 0
none-carried w (write file) x e = refl
none-carried w (lose board) x e = refl
none-carried w (repair fresh helpers stand_ins) x e = refl
none-carried w (read boards output) x e = refl
none-carried w (edit offset bytes boards) x e = refl
none-carried w (start fresh helpers stand_ins) x e = refl
none-carried w (step allowance packets) x e = ap (λ (o : Outcome). o.answer.reported) e
none-carried w (careful boards output) x e = refl
none-carried w (move board point helpers partners) x e = refl

refused-still : (w : State) (c : Call) (x : Refusal) → act w c ≡ refused_at w c x → Still w (call c)
refused-still w c x e =
    same (ap (left w c) e ∙ ap (λ (l : List ℕ). record { kept = w.kept; running = w.running; area = w.area; packets = l }) (packets-stay w c x))
    (none-lost w c x e) (none-carried w c x e)

-- a call that is BUSY passes nothing
busy : (s : Record) (p : Running) (rest : List Line) → p.running ≡ true → first store_order (both_line s p ∷ (Busy when p.running ∷ rest)) ≡ Ok tt → ⊥
busy s p rest r h = true-false r (clear-off (both_line s p ∷ (Busy when p.running ∷ rest)) store_order h Busy refl)

module _ (w : State) (r : w.running.running ≡ true) where
  abbrev s : Record
  s = w.kept

  abbrev p : Running
  p = w.running

  asked-busy : (fresh helpers stand_ins : List ℕ) → first store_order (repair_lines_both s p (length w.area) fresh helpers stand_ins) ≡ Ok tt → ⊥
  unfolding repair_lines_both repair_lines
  asked-busy fresh helpers stand_ins h = busy s p (drop 1 (repair_lines s (length w.area) fresh helpers stand_ins)) r h

  write-busy : (file : List ℕ) → first store_order (write_lines_both s p (length w.area) file) ≡ Ok tt → ⊥
  unfolding write_lines_both write_lines
  write-busy file h = busy s p (drop 1 (write_lines s (length w.area) file)) r h

  edit-busy : (offset : ℕ) (bytes boards : List ℕ) → first store_order (edit_lines_both s p w.area offset bytes boards) ≡ Ok tt → ⊥
  unfolding edit_lines_both edit_lines
  edit-busy offset bytes boards h = busy s p (drop 1 (edit_lines s w.area offset bytes boards)) r h

  move-busy : (board point : ℕ) (helpers partners : List ℕ) → first store_order (move_lines_both s p (length w.area) board point helpers partners) ≡ Ok tt → ⊥
  unfolding move_lines_both move_lines
  move-busy board point helpers partners h = busy s p (drop 1 (move_lines s (length w.area) board point helpers partners)) r h

  -- a call that is taken
  taken : (c : Call) → first store_order (store_lines s p w.area c) ≡ Ok tt → act w c ≡ store_done s p w.area c → (next w (call c)).running.running ≡ true → Still w (call c)
  unfolding store_lines store_done
  taken (write file) h e k = absurd (write-busy file h)
  taken (lose board) h e k = go (among (named_in s.sizes p) board) refl (ap (λ (o : Outcome). o.running.running) (sym e) ∙ k)
    where
      go : (t : Bool) → among (named_in s.sizes p) board ≡ t → (lost_beside s p board).running ≡ true → Still w (call (lose board))
      go true q u = absurd (true-false u (ap₂ (λ (x y : Bool). (pick (alls (x ∷ y ∷ [])) idle p).running) r q))
      go false q u =
          less board h q
          (ap (left w (lose board)) e
          ∙ ap₂ (λ (x y : Bool). record { kept = with_marks s (set s.marks board false); running = pick (alls (x ∷ y ∷ [])) idle p; area = w.area; packets = w.packets }) r q)
          (ap (λ (o : Outcome). pick (eqb o.answer.refusal 0) (board ∷ []) []) e) refl
  taken (repair fresh helpers stand_ins) h e k = absurd (asked-busy fresh helpers stand_ins h)
  taken (read boards output) h e k = same (ap (left w (read boards output)) e) refl refl
  taken (edit offset bytes boards) h e k = absurd (edit-busy offset bytes boards h)
  taken (start fresh helpers stand_ins) h e k = absurd (asked-busy fresh helpers stand_ins h)
  taken (step allowance packets) h e k = go (leb (left_of s p w.area packets) allowance) refl e
    where
      go : (t : Bool) → leb (left_of s p w.area packets) allowance ≡ t
          → act w (step allowance packets) ≡ pick t (step_last s p w.area packets) (step_on s p w.area packets allowance) → Still w (call (step allowance packets))
      go true q u = absurd (true-false k (ap (λ (o : Outcome). o.running.running) u))
      go false q u =
          more allowance packets refl h (leb-false _ _ q) (ap (left w (step allowance packets)) u) refl (ap (λ (o : Outcome). o.answer.reported) u)
  taken (careful boards output) h e k = same (ap (left w (careful boards output)) e) refl refl
  taken (move board point helpers partners) h e k = absurd (move-busy board point helpers partners h)

  pub still : (e : Event) → IsCall e → (next w e).running.running ≡ true → Still w e
  still (call c) ic k = go (first store_order (store_lines s p w.area c)) refl (act-is w c)
    where
      go : (t : Check) → first store_order (store_lines s p w.area c) ≡ t → act w c ≡ by s p w.area (output_of c) (packets_of_call c) (store_done s p w.area c) t → Still w (call c)
      go (Ok tt) q e = taken c q e k
      go (Err x) q e = refused-still w c x e
  still (power_fails q) ic k = absurd ic
