-- The store's record and what a call hands on, as the definitions of the crate `store_spec` have them.
-- Assumes nothing.
use Rattle.std.specs.Prelude.{List, ℕ}
use Rattle.sizes.specs.Refusals.{said}
use Rattle.store_spec.specs.Record.{Record}
use Rattle.beside_spec.specs.Both.{Outcome}
use Rattle.record.specs.Records.{record_of, running_in}
use Rattle.store.specs.declared.Store.{Store}
use Rattle.store.specs.declared.Handed.{Handed}

abbrev pub record_in : Store → Record
record_in s = record_of s.record

abbrev pub outcome_both : Handed → List ℕ → List ℕ → List ℕ → Outcome
outcome_both h area output packets =
    record { answer = said h.answer; handed = record_in h.store; running = running_in h.running; area = area; output = output; packets = packets }
