-- Request A.8, the record of a started repair, "which every store call takes and hands on beside the other".
-- Assumes nothing.
use Rattle.std.specs.Prelude.{Bool, true, false, List, [], ◌∷◌, ◌++◌, ℕ, ◌+◌, ◌-◌, ◌*◌, ltb, length, take, replicate, Ok, Err}
use Rattle.lists.specs.Tests.{pick, alls}
use Rattle.lists.specs.Lists.{fit}
use Rattle.sizes.specs.declared.Sizes.{Sizes}
use Rattle.sizes.specs.Sizing.{α}
use Rattle.sizes.specs.Refusals.{first, store_order, Check}
use Rattle.store_spec.specs.Record.{Record, stripe_count}
use Rattle.store_spec.specs.Calls.{list_lines}

-- whether a repair runs, the number t of its fresh boards, the packets carried, and arrays of 32, 256 and 256 board numbers, whose first entries
-- are its lists
pub record Running : Type 0 where
  pub running : Bool
  pub count : ℕ
  pub carried : ℕ
  pub fresh : List ℕ
  pub helpers : List ℕ
  pub stand_ins : List ℕ

-- the record of no repair that set up, the last step and a loss hand on
abbrev pub idle : Running
idle = record { running = false; count = 0; carried = 0; fresh = replicate 32 0; helpers = replicate 256 0; stand_ins = replicate 256 0 }

-- the record of a repair by these lists of which so many packets were carried; 0 in the entries that its lists do not use
abbrev pub running_by : List ℕ → List ℕ → List ℕ → ℕ → Running
running_by fresh helpers stand_ins carried =
    record { running = true; count = length fresh; carried = carried; fresh = fit 32 fresh; helpers = fit 256 helpers; stand_ins = fit 256 stand_ins }

abbrev pub with_carried : Running → ℕ → Running
with_carried p carried =
    record { running = p.running; count = p.count; carried = carried; fresh = p.fresh; helpers = p.helpers; stand_ins = p.stand_ins }

-- its lists
abbrev pub fresh_of : Running → List ℕ
fresh_of p = take p.count p.fresh

abbrev pub helpers_of : Sizes → Running → List ℕ
helpers_of z p = take (length (fresh_of p) * z.d) p.helpers

abbrev pub stand_ins_of : Sizes → Running → List ℕ
stand_ins_of z p = take (length (fresh_of p) * (z.r - length (fresh_of p))) p.stand_ins

-- all boards "named in the repair"
abbrev pub named_in : Sizes → Running → List ℕ
named_in z p = fresh_of p ++ (helpers_of z p ++ stand_ins_of z p)

-- "exactly t(d + r − 1) packets"
abbrev pub packet_count : Sizes → ℕ → ℕ
packet_count z t = t * (z.d + z.r - 1)

-- "just its packets": S × t × (2d + r − 1) bytes
abbrev pub packets_len : Record → ℕ → ℕ
packets_len s t = stripe_count s * t * α s.sizes

abbrev pub passed : Check → Bool
passed (Ok tt) = true
passed (Err x) = false

-- "A running one with lists that a start would refuse, or a count carried at or above its total, is SIZE": the lists are asked beside this record
-- of the store, SERVING and DOWN too; one of no repair is not examined
unfoldable pub sound_beside : Record → Running → Bool
sound_beside s p =
    pick p.running
    (alls
    (passed (first store_order (list_lines s (fresh_of p) (helpers_of s.sizes p) (stand_ins_of s.sizes p)))
    ∷ ltb p.carried (packet_count s.sizes (length (fresh_of p)))
    ∷ []))
    true
