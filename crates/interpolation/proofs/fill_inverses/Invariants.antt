-- `interpolation::fill_inverses` meets its contract: the inverses so far, before what was there.
-- Assumes nothing.
use Rattle.std.proofs.Common.{◌≡◌, ◌++◌, length, drop}
use Rattle.lists.specs.Lists.{tabulate}
use Rattle.gf256.specs.Field.{inverse}
use Rattle.interpolation.proofs.fill_inverses.Given as goal

abbrev pub invariant-loop-t : goal.invariant-loop-t
invariant-loop-t l = (l.table ≡ tabulate l.t inverse ++ drop l.t l.initial.table) × (length l.table ≡ length l.initial.table)
