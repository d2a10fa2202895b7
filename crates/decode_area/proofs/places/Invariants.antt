-- `decode_area::places` meets its contract: the places so far, before what was there.
-- Assumes nothing.
use Rattle.std.proofs.Common.{◌≡◌, ◌++◌, ◌*◌, length, get_or, drop}
use Rattle.lists.specs.Lists.{tabulate}
use Rattle.decode_area.proofs.places.Given as goal

abbrev pub invariant-loop-t : goal.invariant-loop-t
invariant-loop-t l = (l.out ≡ tabulate l.t (λ t. get_or l.boards t 0 * l.part) ++ drop l.t l.initial.out) × (length l.out ≡ length l.initial.out)
