-- `rekeep_stripes::patch_stripes` meets its contract. The loop's invariant: the stripes so far are done, and those left are as they were.
-- Assumes nothing.
use Rattle.std.proofs.Common.{◌≡◌, ◌*◌, ◌++◌, drop}
use Rattle.lists.specs.Lists.{join, piece}
use Rattle.sizes.specs.Sizing.{α}
use Rattle.rekeep_stripes.specs.Steps.{patch_by}
use Rattle.rekeep_stripes.proofs.patch_stripes.Given as goal

abbrev pub invariant-loop-s : goal.invariant-loop-s
invariant-loop-s l =
    l.held ≡ join l.s (λ q. patch_by l.sizes l.t l.ff l.gf (piece (α l.sizes) q l.initial.held)) ++ drop (l.s * α l.sizes) l.initial.held
