-- `inverses::fill_inverses` meets its contract: what is left of the walk leads to the table of inverses.
-- Assumes nothing.
use Rattle.std.proofs.Common.{◌≡◌, ◌-◌, length}
use Rattle.lists.specs.Lists.{tabulate}
use Rattle.gf256.specs.Field.{inverse}
use Rattle.inverse_walk.specs.Steps.{walk}
use Rattle.inverses.proofs.fill_inverses.Given as goal

abbrev pub invariant-loop : goal.invariant-loop
invariant-loop l = (walk (255 - l.counter) l.x l.y l.table ≡ tabulate 256 inverse) × (length l.table ≡ 256)
