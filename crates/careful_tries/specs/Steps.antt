-- What a careful read is asked past its checks, and what a try hands on that found the file.
-- Assumes nothing.
use Rattle.std.specs.Prelude.{◌≡◌, true, List, ℕ, ◌+◌, length}
use Rattle.lists.specs.Tests.{given}
use Rattle.mbcr.specs.Demand2.{Named}
use Rattle.board_spec.specs.Calls.{file_of}
use Rattle.store_spec.specs.Record.{Record, sound, area_len}
use Rattle.store_spec.specs.Calls.{file_held}
use Rattle.store_spec.specs.Careful.{careful_file, odd, odd_report}
use Rattle.decode_setup.specs.Steps.{Made}

-- k + 2 boards of a sound record, and an area as long as its
pub record Careful (s : Record) (boards area : List ℕ) : Type 0 where
  pub is-sound : sound s ≡ true
  pub named : Named s.sizes (s.sizes.k + 2) boards
  pub area-is : length area ≡ area_len s

-- k boards that hold the file, the tables of a read from them, and the report of the odd board
pub record Found (s : Record) (boards area chosen tables : List ℕ) (report : ℕ) : Type 0 where
  pub named : Named s.sizes s.sizes.k chosen
  pub there : given (file_held s area chosen) ≡ true
  pub is-file : careful_file s area boards ≡ file_held s area chosen
  pub made : Made s.sizes s.points chosen tables
  pub is_odd : report ≡ odd_report (odd s area (file_of (careful_file s area boards)) boards)
