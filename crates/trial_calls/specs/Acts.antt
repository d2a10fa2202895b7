-- What a call of the store is to hand on, and leave in the area, for the trial load. A read's output is dropped: the program prints none of it.
-- Assumes nothing.
use Rattle.std.specs.Prelude.{◌≡◌, true, List, [], ℕ, ◌+◌, ◌*◌, ◌<◌, length, replicate}
use Rattle.lists.specs.Lists.{join}
use Rattle.sizes.specs.declared.Sizes.{Sizes}
use Rattle.sizes.specs.Sizing.{legal}
use Rattle.sizes.specs.Refusals.{said}
use Rattle.beside_spec.specs.Acting.{Call, repair, read, State, act}
use Rattle.trial_spec.specs.Trial.{counted, left}
use Rattle.record.specs.declared.Running.{Running}
use Rattle.record.specs.Records.{running_in}
use Rattle.store.specs.declared.Store.{Store}
use Rattle.store.specs.declared.Handed.{Handed}
use Rattle.store.specs.Handing.{record_in}

-- both records, and the area; no packet area, as none of the calls drawn is a step
abbrev pub state_in : Store → Running → List ℕ → State
state_in s p area = record { kept = record_in s; running = running_in p; area = area; packets = [] }

-- this call on a state: the answer, the records and the area are the definition's
pub record Acts (w : State) (call : Call) (h : Handed) (area : List ℕ) : Type 0 where
  pub answer : said h.answer ≡ (act w call).answer
  pub after : state_in h.store h.running area ≡ left (act w call)

-- the repair and the read from a board on, for a load of these sizes and this length
abbrev pub repair_drawn : Sizes → ℕ → Call
repair_drawn z first = repair (counted z.n first z.r) (join z.r (λ _. counted z.n (first + z.r) z.d)) []

abbrev pub read_drawn : Sizes → ℕ → ℕ → Call
read_drawn z len first = read (counted z.n first z.k) (replicate len 0)

-- slices for the lists of a repair
pub record Listed (z : Sizes) (first : ℕ) (fresh helpers : List ℕ) : Type 0 where
  pub is-legal : legal z ≡ true
  pub low : first < 32
  pub fresh-long : length fresh ≡ z.r
  pub helpers-long : length helpers ≡ z.r * z.d
