-- `powers::fill_powers` meets its contract. The loop's invariant: the tables so far are in their places, and `power` has the next powers.
-- Assumes nothing.
use Rattle.std.proofs.Common.{◌≡◌, ◌*◌, drop, ◌++◌}
use Rattle.lists.specs.Lists.{join}
use Rattle.row_sums.specs.Steps.{multiples}
use Rattle.powers.specs.Steps.{power_row}
use Rattle.powers.proofs.fill_powers.Given as goal

abbrev pub invariant-loop-j : goal.invariant-loop-j
invariant-loop-j l = (l.tables ≡ join l.j (λ j. multiples (power_row l.points j)) ++ drop (l.j * 512) l.initial.tables) × (l.power ≡ power_row l.points l.j)
