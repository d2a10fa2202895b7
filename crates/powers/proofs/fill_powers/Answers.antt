-- `powers::fill_powers` meets its contract. The loop's invariant: the tables so far are in their places, and `power` has the next powers.
-- Assumes nothing.
use Rattle.std.proofs.Common.{◌≡◌, ℕ, ◌*◌, drop, ◌++◌, refl, ap, ◌∙◌, arith}
use Rattle.lists.specs.Lists.{join}
use Rattle.row_sums.specs.Steps.{multiples}
use Rattle.powers.specs.Steps.{power_row}
use Rattle.grid.proofs.Kept.{join-loop}
use Rattle.powers.proofs.Turns.{power-start, power-turn, length-power-multiples}
use Rattle.powers.proofs.fill_powers.Goals as goal

pub loop-j-init : goal.loop-j-init
loop-j-init c = (refl, power-start c.args.points.now 32 c.requires.0)

pub loop-j-preserved : goal.loop-j-preserved
loop-j-preserved c =
    let l = c.loop-j in
    let xs = c.args.points.now in (
      join-loop (λ j. multiples (power_row xs j)) 512 l.j c.args.tables.now l.tables _ (λ i h. length-power-multiples xs i c.requires.0)
          (c.fill_multiples.ensures ∙ ap multiples l.invariant.1) l.invariant.0,
      power-turn xs l.power _ l.j l.invariant.1 c.scale_by.ensures,
    )

pub returns : goal.returns
returns c =
    let e : c.loop-j.j ≡ c.args.w = omega arith in
    c.loop-j.invariant.0 ∙ ap (λ (m : ℕ). join m (λ j. multiples (power_row c.args.points.now j)) ++ drop (m * 512) c.args.tables.now) e
