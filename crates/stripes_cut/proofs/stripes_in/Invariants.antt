-- `stripes_cut::stripes_in` meets its contract: the stripes so far, the last of them cut to the length, over what was there.
-- Assumes nothing.
use Rattle.std.proofs.Common.{◌≡◌, ◌+◌, length, take}
use Rattle.lists.specs.Lists.{join, over}
use Rattle.stripes_cut.specs.Steps.{stripe_at}
use Rattle.stripes_cut.proofs.Made.{Kept}
use Rattle.stripes_cut.proofs.stripes_in.Given as goal

abbrev pub invariant-loop-s : goal.invariant-loop-s
invariant-loop-s l =
    (l.out ≡ over (take l.len (join l.s (λ i. stripe_at l.sizes l.points l.boards l.starts l.bytes (l.first + i)))) l.initial.out)
    × (length l.out ≡ length l.initial.out) × (length l.u ≡ length l.initial.u)
    × Kept l.initial.fs l.initial.gs l.initial.vf l.initial.vg l.initial.tp l.initial.rows l.initial.columns l.fs l.gs l.vf l.vg l.tp l.rows l.columns
