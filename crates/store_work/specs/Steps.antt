-- What the work of a read and of an edit asks of a record, an area of m bytes and k boards.
-- Assumes nothing.
use Rattle.std.specs.Prelude.{◌≡◌, true, List, ℕ, length}
use Rattle.lists.specs.Tests.{below, different}
use Rattle.store_spec.specs.Record.{Record, sound, area_len}

pub record Readable (s : Record) (m : ℕ) (boards : List ℕ) : Type 0 where
  pub is-sound : sound s ≡ true
  pub area-is : m ≡ area_len s
  pub count : length boards ≡ s.sizes.k
  pub named-below : below s.sizes.n boards ≡ true
  pub all-different : different boards ≡ true
