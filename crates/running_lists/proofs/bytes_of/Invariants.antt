-- `running_lists::bytes_of` meets its contract. The loop's invariant: the bytes so far, before what was there.
-- Assumes nothing.
use Rattle.std.proofs.Common.{◌≡◌, ◌++◌, length, get_or, drop}
use Rattle.lists.specs.Lists.{tabulate}
use Rattle.running_lists.proofs.bytes_of.Given as goal

abbrev pub invariant-loop-i : goal.invariant-loop-i
invariant-loop-i l = (l.bytes ≡ tabulate l.i (λ t. get_or l.boards t 0) ++ drop l.i l.initial.bytes) × (length l.bytes ≡ length l.initial.bytes)
