-- `lagrange_rows::products_before` meets its contract: the rows so far, before what was there, and the next row.
-- Assumes nothing.
use Rattle.std.proofs.Common.{◌≡◌, ◌+◌, ◌*◌, ◌-◌, length, take, drop, refl, ◌∙◌, arith}
use lib.ListN.{length-take, length-drop}
use lib.Seq.{take_all}
use Rattle.row_dots.proofs.Rows.{join-loop, join-end}
use Rattle.lagrange_rows.specs.Steps.{before_row}
use Rattle.lagrange_rows.proofs.Weights.{before-start, before-turn, length_before}
use Rattle.lagrange_rows.proofs.products_before.Goals as goal

pub loop-t-init : goal.loop-t-init
loop-t-init c = (refl, before-start c.args.points.now c.args.xs.now)

pub loop-t-preserved : goal.loop-t-preserved
loop-t-preserved c =
    let l = c.loop-t in
    let a = c.args in
    let all : length (take (l.t * 32 + 32 - l.t * 32) (drop (l.t * 32) l.rows)) ≡ 32 = simp (length-take, length-drop) (omega arith) in (
      join-loop (before_row a.points.now a.xs.now) 32 l.t a.rows.now l.rows _ (λ i h. length_before a.points.now a.xs.now i)
          (c.copy.ensures ∙ take_all _ l.row (omega arith) ∙ l.invariant.1) l.invariant.0,
      before-turn a.points.now a.xs.now l.row _ l.t (omega arith) l.invariant.1 c.scale_by_difference.ensures,
    )

pub returns : goal.returns
returns c =
    let a = c.args in
    join-end (before_row a.points.now a.xs.now) 32 c.loop-t.t (length a.xs.now) a.rows.now c.loop-t.rows (omega arith) (omega arith) c.loop-t.invariant.0
