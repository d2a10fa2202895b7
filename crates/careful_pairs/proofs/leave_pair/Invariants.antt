-- `careful_pairs::leave_pair` meets its contract. The loop's invariant: the boards so far, before what was there.
-- Assumes nothing.
use Rattle.std.proofs.Common.{◌≡◌, ◌++◌, length, get_or, drop}
use Rattle.lists.specs.Lists.{tabulate}
use Rattle.careful_pairs.proofs.Pairs.{place_of}
use Rattle.careful_pairs.proofs.leave_pair.Given as goal

abbrev pub invariant-loop-t : goal.invariant-loop-t
invariant-loop-t l = (l.out ≡ tabulate l.t (λ i. get_or l.boards (place_of l.p i) 0) ++ drop l.t l.initial.out) × (length l.out ≡ length l.initial.out)
