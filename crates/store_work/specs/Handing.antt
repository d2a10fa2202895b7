-- What a refused call hands on, as the definitions of the crate `store_spec` have it.
-- Assumes nothing.
use Rattle.std.specs.Prelude.{List, ℕ, Err}
use Rattle.sizes.specs.declared.Refusal.{Refusal}
use Rattle.sizes.specs.Refusals.{said}
use Rattle.store_spec.specs.Record.{Record}
use Rattle.beside_spec.specs.Running.{Running}
use Rattle.beside_spec.specs.Both.{Outcome}

-- what a refused call hands on: all as it came
abbrev pub turned_down : Record → Running → List ℕ → List ℕ → List ℕ → Refusal → Outcome
turned_down s p area output packets x =
    record { answer = said (Err x); handed = s; running = p; area = area; output = output; packets = packets }
