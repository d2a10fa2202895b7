-- The store's record from its parts; and what its checks ask.
-- Assumes nothing.
use Rattle.std.specs.Prelude.{◌≡◌, Bool, true, List, ℕ, ◌≤◌}
use Rattle.sizes.specs.declared.Sizes.{Sizes}
use Rattle.sizes.specs.Sizing.{legal}
use Rattle.store_spec.specs.Record.{Record}

abbrev pub record_of : Sizes → List ℕ → ℕ → Bool → ℕ → List Bool → Record
record_of z xs capacity written length marks = record { sizes = z; points = xs; capacity = capacity; written = written; length = length; marks = marks }

-- legal sizes, and so few stripes that their bytes can be counted
pub record Bounded (z : Sizes) (stripes : ℕ) : Type 0 where
  pub is-legal : legal z ≡ true
  pub few : stripes ≤ 4096
