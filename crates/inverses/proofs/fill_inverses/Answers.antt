-- `inverses::fill_inverses` meets its contract: what is left of the walk leads to the table of inverses.
-- Assumes nothing.
use Rattle.std.proofs.Common.{◌≡◌, ◌∙◌, ℕ, ap, length, arith}
use Rattle.std.proofs.Math.ListN.{length-set}
use Rattle.lists.specs.Lists.{tabulate}
use Rattle.lists.proofs.Pieces.{length-tabulate}
use Rattle.inverse_walk.specs.Steps.{walk}
use Rattle.inverse_walk.proofs.Walk.{walked, walk_turn, walk_end}
use Rattle.inverses.proofs.fill_inverses.Goals as goal

pub loop-init : goal.loop-init
loop-init c =
    let n : length c.args.table.now ≡ 256 = c.requires in
    let z = c.clear.ensures ∙ ap (λ (m : ℕ). tabulate m (λ j. 0)) n in
    (ap (walk 255 1 1) z ∙ walked, ap length z ∙ length-tabulate {A = ℕ} 256 (λ j. 0))

pub loop-preserved : goal.loop-preserved
loop-preserved c =
    let l = c.loop in (
      walk_turn l.counter l.x l.y _ _ l.table _ (omega arith) c.double-x.ensures c.half-y.ensures l.invariant.0,
      length-set l.table l.x _ ∙ l.invariant.1,
    )

pub returns : goal.returns
returns c = walk_end c.loop.counter c.loop.x c.loop.y c.loop.table _ (omega arith) c.loop.invariant.0
