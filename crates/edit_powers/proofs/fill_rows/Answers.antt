-- `edit_powers::fill_rows` meets its contract. The loop's invariant: the rows so far are in their places, and `power` has the next powers.
-- Assumes nothing.
use Rattle.std.proofs.Common.{refl, ◌∙◌, arith}
use Rattle.powers.specs.Steps.{power_row}
use Rattle.powers.proofs.Turns.{power-start, power-turn, length-power_row}
use Rattle.row_dots.proofs.Rows.{join-loop, join-end}
use Rattle.edit_powers.specs.Steps.{powers_of}
use Rattle.edit_powers.proofs.Rows.{row_copied}
use Rattle.edit_powers.proofs.fill_rows.Goals as goal

pub loop-j-init : goal.loop-j-init
loop-j-init c = record {
  rows = refl;
  power = power-start c.args.points.now 32 c.requires.0;
}

pub loop-j-preserved : goal.loop-j-preserved
loop-j-preserved c =
    let l = c.loop-j in
    let xs = c.args.points.now in record {
      rows =
          join-loop (power_row xs) 32 l.j c.args.rows.now l.rows _ (λ i h. length-power_row xs i ∙ c.requires.0)
          (row_copied l.j l.rows l.power _ (omega arith) c.loop-j-test.true (omega arith) c.copy.ensures ∙ l.invariant.power) l.invariant.rows;
      power = power-turn xs l.power _ l.j l.invariant.power c.scale_by.ensures;
    }

pub returns : goal.returns
unfolding powers_of
returns c = join-end (power_row c.args.points.now) 32 c.loop-j.j 32 c.args.rows.now c.loop-j.rows (omega arith) (omega arith) c.loop-j.invariant.rows
