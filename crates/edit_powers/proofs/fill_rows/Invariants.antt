-- `edit_powers::fill_rows` meets its contract. The loop's invariant: the rows so far are in their places, and `power` has the next powers.
-- Assumes nothing.
use Rattle.std.proofs.Common.{◌≡◌, ◌*◌, ◌++◌, drop}
use Rattle.lists.specs.Lists.{join}
use Rattle.powers.specs.Steps.{power_row}
use Rattle.edit_powers.proofs.fill_rows.Given as goal

abbrev pub invariant-loop-j : goal.invariant-loop-j
invariant-loop-j l = record {
  rows : l.rows ≡ join l.j (power_row l.points) ++ drop (l.j * 32) l.initial.rows;
  power : l.power ≡ power_row l.points l.j;
}
