-- The numbers of a load, and whether its store is set up.
-- Assumes nothing.
use Rattle.std.specs.Prelude.{Bool, [], ◌∷◌, ℕ, leb, eqb}
use Rattle.lists.specs.Tests.{alls}
use Rattle.sizes.specs.declared.Sizes.{Sizes}
use Rattle.mbcr.specs.Share.{standard}
use Rattle.store_spec.specs.Record.{new_record, area_len}
use Rattle.store_spec.specs.Calls.{set_up_call}
use Rattle.trial_spec.specs.Trial as trial
use Rattle.trial_limits.specs.declared.Numbers.{Numbers}

-- the numbers of a load, as the definitions have them
abbrev pub numbers_in : Numbers → trial.Load
numbers_in l = record { sizes = l.sizes; capacity = l.capacity; seed = l.seed; length = l.length; calls = l.calls }

-- the set-up is accepted, and the area is not too long
abbrev pub set_up : Sizes → ℕ → Bool
set_up z C =
    let s = new_record z (standard z) C in
    alls (eqb (set_up_call s z (standard z) C).answer.refusal 0 ∷ leb (area_len s) 32768 ∷ [])
