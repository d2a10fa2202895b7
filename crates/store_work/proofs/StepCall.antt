-- A step: what it hands on where its check refuses, and where it passes.
-- Assumes nothing.
use Prim.Native.Nat.{ℕ}
use mathlib.Core.Path.{◌≡◌, ◌∙◌}
use mathlib.Core.List.{List, []}
use lib.ListN.{length}
use Rattle.sizes.specs.declared.Refusal.{Refusal}
use Rattle.std.specs.Prelude.{Ok, Err}
use Rattle.sizes.specs.Refusals.{first, store_order, Check}
use Rattle.store_spec.specs.Record.{Record}
use Rattle.beside_spec.specs.Running.{Running}
use Rattle.beside_spec.specs.Both.{Outcome, step_lines, step_done, step_call}
use Rattle.store_work.specs.Handing.{turned_down}
use Rattle.store_work.proofs.Settled.{refused-by, done-by}

module _ (s : Record) (p : Running) (area packets : List ℕ) where
  abbrev pub checked : Check
  checked = first store_order (step_lines s p (length area) (length packets))

  pub step-refuses : (allowance : ℕ) {r : Check} {x : Refusal} → r ≡ checked → r ≡ Err x → turned_down s p area [] packets x ≡ step_call s p area packets allowance
  unfolding step_call
  step-refuses allowance e h = refused-by (turned_down s p area [] packets) (step_done s p area packets allowance) e h

  pub step-works : (allowance : ℕ) {o : Outcome} → checked ≡ Ok tt → o ≡ step_done s p area packets allowance → o ≡ step_call s p area packets allowance
  unfolding step_call
  step-works allowance h e = e ∙ done-by (turned_down s p area [] packets) (step_done s p area packets allowance) h
