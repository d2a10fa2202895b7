-- `text_stripes::stripe_bytes` meets its contract. The loop's invariant: the bytes of the boards so far, and the rest as it was.
-- Assumes nothing.
use Rattle.std.proofs.Common.{◌≡◌, ◌++◌, ◌*◌, length, drop}
use Rattle.lists.specs.Lists.{join}
use Rattle.text_stripes.proofs.Starts.{board}
use Rattle.text_stripes.proofs.stripe_bytes.Given as goal

abbrev pub invariant-loop-t : goal.invariant-loop-t
invariant-loop-t l =
    (l.out ≡ join l.t (board l.text l.places l.from l.share) ++ drop (l.t * l.share) l.initial.out) × (length l.out ≡ length l.initial.out)
