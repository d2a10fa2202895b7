-- What the work of a step asks, and what it leaves.
-- Assumes nothing.
use Rattle.std.specs.Prelude.{◌≡◌, true, List, [], ℕ, ◌<◌, length, Ok}
use Rattle.sizes.specs.Refusals.{said}
use Rattle.store_spec.specs.Record.{Record, sound, area_len}
use Rattle.beside_spec.specs.Running.{Running, fresh_of, helpers_of, stand_ins_of, packet_count, packets_len}
use Rattle.beside_spec.specs.Both.{Outcome}
use Rattle.step_laws.specs.Steps.{Listed}
use Rattle.record.specs.Records.{record_of, running_in}
use Rattle.store_step.specs.declared.Stepped.{Stepped}

-- a sound record, lists that a start takes, an area and a packet area of their lengths
pub record Going (s : Record) (fresh helpers stand_ins area packets : List ℕ) : Type 0 where
  pub is-sound : sound s ≡ true
  pub listed : Listed s.sizes fresh helpers stand_ins
  pub area-is : length area ≡ area_len s
  pub packets-are : length packets ≡ packets_len s (length fresh)

-- these are the lists of a repair that runs, and some packets of it are left
pub record Listing (s : Record) (p : Running) (fresh helpers stand_ins : List ℕ) : Type 0 where
  pub runs : p.running ≡ true
  pub fresh-are : fresh ≡ fresh_of p
  pub helpers-are : helpers ≡ helpers_of s.sizes p
  pub stand-ins-are : stand_ins ≡ stand_ins_of s.sizes p
  pub some_left : p.carried < packet_count s.sizes (length fresh)

-- what a step leaves, with both areas, as its definition has it
abbrev pub left_by : Stepped → List ℕ → List ℕ → Outcome
left_by r area packets =
    record { answer = said (Ok r.count); handed = record_of r.record; running = running_in r.running; area = area; output = []; packets = packets }
