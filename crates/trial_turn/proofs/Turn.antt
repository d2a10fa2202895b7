-- The call drawn, case by case; and what a load that is taken has.
-- Assumes nothing.
use mathlib.Core.Path.{◌≡◌, refl, sym, ap₂, subst, ◌∙◌}
use mathlib.Core.Bool.{Bool, true, false}
use mathlib.Core.List.{List}
use Prim.Native.Nat.{ℕ, ◌%◌, ◌≤◌}
use lib.Dec.{eqb}
use Rattle.lists.specs.Tests.{pick}
use Rattle.number_lines.proofs.Picks.{if-eq, if-ne}
use Rattle.sizes.specs.Sizing.{legal}
use Rattle.sizes.specs.Refusals.{Said}
use Rattle.mbcr.specs.Share.{standard}
use Rattle.beside_spec.specs.Acting.{Call, write, lose, State}
use Rattle.store_spec.proofs.Records.{sound-facts}
use Rattle.beside_spec.specs.Running.{idle}
use Rattle.beside_spec.proofs.Beside.{set-up-both}
use Rattle.store.specs.declared.Handed.{Handed}
use Rattle.generator.specs.Generator.{step, top_byte, after, emitted}
use Rattle.trial_spec.specs.Trial.{Load, new_store, taken, Drawn, board_call, drawn, call_line}
use Rattle.trial_spec.proofs.Laws.{trial-laws}
use Rattle.trial_line.specs.Line.{line_of}
use Rattle.trial_line.proofs.Line.{call-of, line-drawn}
use Rattle.trial_calls.specs.Acts.{Acts, repair_drawn, read_drawn}
use Rattle.trial_turn.specs.Turn.{picked_call, picked_state}

module _ (l : Load) where
  pub taken-legal : taken l ≡ true → legal l.sizes ≡ true
  taken-legal h =
      (sound-facts _ (set-up-both (new_store l) idle l.sizes (standard l.sizes) l.capacity (((trial-laws.taken_is l).0 h).2 (new_store l) idle))).is-legal

  pub taken-length : taken l ≡ true → l.length ≤ 16384
  taken-length h = ((trial-laws.taken_is l).0 h).4

  -- the kinds of call, by the number picked
  module _ (op first : ℕ) where
    pub is-lose : op ≡ 1 → lose first ≡ board_call l op first
    is-lose e = sym (if-eq op 1 _ _ e)

    module _ (not-lose : op ≡ 1 → ⊥) where
      pub is-repair : op ≡ 2 → repair_drawn l.sizes first ≡ board_call l op first
      is-repair e = sym (if-ne op 1 _ _ not-lose ∙ if-eq op 2 _ _ e)

      pub is_read : (op ≡ 2 → ⊥) → read_drawn l.sizes l.length first ≡ board_call l op first
      is_read e = sym (if-ne op 1 _ _ not-lose ∙ if-ne op 2 _ _ e)

  module _ (op picked : ℕ) where
    pub is-write : op ≡ 0 → (write (emitted l.length picked) ≡ picked_call l op picked) × (after l.length picked ≡ picked_state l op picked)
    is-write e = (sym (if-eq op 0 _ _ e), sym (if-eq op 0 _ _ e))

    pub is-board : (op ≡ 0 → ⊥) → (board_call l op (top_byte (step picked) % l.sizes.n) ≡ picked_call l op picked) × (step picked ≡ picked_state l op picked)
    is-board e = (sym (if-ne op 0 _ _ e), sym (if-ne op 0 _ _ e))

  -- what is picked is what is drawn
  module _ (state : ℕ) where
    state-of : (drawn l state).state ≡ picked_state l (top_byte (step state) % 4) (step state)
    unfolding drawn
    state-of = by (eqb (top_byte (step state) % 4) 0)
      where
        by : (t : Bool) → (pick {A = Drawn} t (record { call = write (emitted l.length (step state)); state = after l.length (step state) })
            (record { call = board_call l (top_byte (step state) % 4) (top_byte (step (step state)) % l.sizes.n); state = step (step state) })).state
            ≡ pick t (after l.length (step state)) (step (step state))
        by true = refl
        by false = refl

    module _ (picked op : ℕ) (p : picked ≡ step state) (op-is : op ≡ top_byte (step state) % 4) where
      pub call-picked : picked_call l op picked ≡ (drawn l state).call
      call-picked = ap₂ {C = Call} (picked_call l) op-is p ∙ sym (call-of l state)

      pub state-picked : picked_state l op picked ≡ (drawn l state).state
      state-picked = ap₂ {C = ℕ} (picked_state l) op-is p ∙ sym state-of

      -- the line of the kind picked is that of the call drawn
      pub line-picked : {a r : Said} → a ≡ r → line_of op a ≡ call_line (drawn l state).call r
      line-picked {a} {r} e = ap₂ {C = List ℕ} line_of op-is e ∙ line-drawn l state r

-- the same call
pub as_call : {w : State} {c d : Call} {h : Handed} {area : List ℕ} → c ≡ d → Acts w c h area → Acts w d h area
as_call {w} {c} {d} {h} {area} e a = subst (λ (c : Call). Acts w c h area) e a
