-- The store's record and that of a started repair, as the definitions of the crate `store_spec` have them.
-- Assumes nothing.
use Rattle.store_spec.specs.Record.{Record}
use Rattle.beside_spec.specs.Running as beside
use Rattle.record.specs.declared.Kept.{Kept}
use Rattle.record.specs.declared.Running.{Running}

abbrev pub record_of : Kept → Record
record_of s = record { sizes = s.sizes; points = s.points; capacity = s.capacity; written = s.written; length = s.length; marks = s.marks }

abbrev pub running_in : Running → beside.Running
running_in p = record { running = p.running; count = p.count; carried = p.carried; fresh = p.fresh; helpers = p.helpers; stand_ins = p.stand_ins }
