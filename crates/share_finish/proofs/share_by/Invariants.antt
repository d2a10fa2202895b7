-- `share_finish::share_by` meets its contract: the stripes so far, before what was there.
-- Assumes nothing.
use Rattle.std.proofs.Common.{◌≡◌, ◌*◌, ◌++◌, drop}
use Rattle.lists.specs.Lists.{join}
use Rattle.finish_bytes.specs.Steps.{stripe_by}
use Rattle.share_finish.proofs.share_by.Given as goal

abbrev pub invariant-loop-s : goal.invariant-loop-s
invariant-loop-s l =
    l.out ≡ join l.s (λ s. stripe_by l.sizes l.i l.lanes l.rows l.stripes s l.packets l.exchanges) ++ drop (l.s * l.a) l.initial.out
