-- What the checks of a repair's lists ask.
-- Assumes nothing.
use Rattle.std.specs.Prelude.{◌≡◌, Bool, true, List, [], ◌∷◌, ◌++◌, ℕ, ◌-◌, ◌*◌, ◌≤◌, leb, eqb, length}
use Rattle.lists.specs.Tests.{every, different, apart}
use Rattle.sizes.specs.declared.Sizes.{Sizes}
use Rattle.store_spec.specs.Record.{Record}
use Rattle.store_spec.specs.Packets.{hear_named}
use Rattle.store_lines.specs.Steps.{record_of}

-- a run of d helpers and one of e stand-ins for each fresh board, and few in all
pub record Runs (d e : ℕ) (fresh helpers stand_ins : List ℕ) : Type 0 where
  pub whole : length helpers ≡ length fresh * d
  pub few : length helpers ≤ 1024
  pub stood : length stand_ins ≡ length fresh * e
  pub few-stood : length stand_ins ≤ 1024

-- COUNT, by the lengths of the lists
abbrev pub count_tests : Sizes → ℕ → ℕ → ℕ → List Bool
count_tests z fresh helpers stand_ins =
    leb 1 fresh ∷ leb fresh z.r ∷ eqb helpers (fresh * z.d) ∷ eqb stand_ins (fresh * (z.r - fresh)) ∷ []

-- REPEAT
abbrev pub repeat_tests : ℕ → ℕ → List ℕ → List ℕ → List ℕ → List Bool
repeat_tests d e fresh helpers stand_ins =
    different fresh
    ∷ every (λ h. different h.senders) (hear_named d e fresh helpers stand_ins)
    ∷ apart fresh (helpers ++ stand_ins)
    ∷ []

-- a record of which the lists' lines ask only sizes and marks
abbrev pub named : Sizes → List Bool → Record
named z marks = record_of z [] 0 true 0 marks
