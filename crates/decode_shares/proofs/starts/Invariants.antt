-- `decode_shares::starts` meets its contract: the places so far, before what was there.
-- Assumes nothing.
use Rattle.std.proofs.Common.{◌≡◌, ◌++◌, ◌*◌, length, drop}
use Rattle.lists.specs.Lists.{tabulate}
use Rattle.decode_shares.proofs.starts.Given as goal

abbrev pub invariant-loop-t : goal.invariant-loop-t
invariant-loop-t l = (l.out ≡ tabulate l.t (λ t. t * l.share) ++ drop l.t l.initial.out) × (length l.out ≡ length l.initial.out)
