-- `stripe_helper::pairs` meets its contract: the pairs of the stripes so far, before what was there.
-- Assumes nothing.
use Rattle.std.proofs.Common.{◌≡◌, ◌+◌, ◌-◌, ◌*◌, ◌++◌, drop}
use Rattle.lists.specs.Lists.{join, piece}
use Rattle.stripe_helper.specs.Steps.{pair_by}
use Rattle.stripe_helper.proofs.pairs.Given as goal

abbrev pub invariant-loop-s : goal.invariant-loop-s
invariant-loop-s l = l.out ≡ join l.s (λ s. pair_by l.w l.ff l.gf (piece (l.w + l.d - 1) s l.held)) ++ drop (l.s * 2) l.initial.out
