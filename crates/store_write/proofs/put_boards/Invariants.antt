-- `store_write::put_boards` meets its contract. The loop's invariant: what the boards so far keep is in its place.
-- Assumes nothing.
use Rattle.std.proofs.Common.{◌≡◌, ◌+◌, ◌*◌, length, get_or}
use Rattle.area_puts.specs.Steps.{puts}
use Rattle.kept_bytes.specs.Steps.{kept_of}
use Rattle.store_write.proofs.put_boards.Given as goal

abbrev pub invariant-loop-i : goal.invariant-loop-i
invariant-loop-i l =
    (l.area ≡ puts (λ i. i * l.part + l.at) (λ i. kept_of l.sizes (λ b. get_or l.values (b * 32 + i) 0) (λ b. get_or l.values (i * 32 + b) 0) i) l.i l.initial.area)
    × (length l.area ≡ length l.initial.area)
