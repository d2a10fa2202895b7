-- `lagrange_rows::products_after` meets its contract: the rows from t on are done, and those before it as they came.
-- Assumes nothing.
use Rattle.std.proofs.Common.{◌≡◌, ◌-◌, ◌<◌, length, ap, sym, ◌∙◌, arith}
use Prim.Native.Nat.{suc}
use lib.ListN.{length-take, length-drop}
use Rattle.lists.proofs.Alls.{all-at}
use Rattle.lists.proofs.Boards.{below_all}
use Rattle.lists.proofs.Pieces.{length-join}
use Rattle.mbcr.proofs.Points.{length-points}
use Rattle.lagrange_rows.specs.Steps.{before_row}
use Rattle.lagrange_rows.proofs.Weights.{length_before, after_row, after-start, after_turn, left, left-start, left-row, row_done, left-turn, left_end}
use Rattle.lagrange_rows.proofs.products_after.Goals as goal

pub loop-t-init : goal.loop-t-init
loop-t-init c =
    let a = c.args in
    let n : length a.xs.now ≡ length a.boards.now = ap length c.requires.4 ∙ length-points a.points.now a.boards.now in
    (c.requires.5 ∙ left-start a.points.now a.boards.now a.xs.now _ n, after-start a.points.now a.xs.now _ (omega arith))

pub slice_bounds-divide-end-in-loop-t : goal.slice_bounds-divide-end-in-loop-t
slice_bounds-divide-end-in-loop-t c =
    let a = c.args in
    let n : length a.xs.now ≡ length a.boards.now = ap length c.requires.4 ∙ length-points a.points.now a.boards.now in
    let m = ap length c.requires.5 ∙ length-join _ 32 (before_row a.points.now a.xs.now) (λ i h. length_before a.points.now a.xs.now i) in
    omega arith

pub divide-requires : goal.divide-requires
divide-requires c =
    let l = c.loop-t in
    let a = c.args in
    let n : length a.xs.now ≡ length a.boards.now = ap length c.requires.4 ∙ length-points a.points.now a.boards.now in
    let m = ap length c.requires.5 ∙ length-join _ 32 (before_row a.points.now a.xs.now) (λ i h. length_before a.points.now a.xs.now i) in (
      c.requires.0,
      omega arith,
      all-at (λ b. b < 32) 0 a.boards.now (below_all 32 a.boards.now c.requires.2) (l.t - 1) (omega arith),
      simp (length-take, length-drop) (omega arith),
    )

pub loop-t-preserved : goal.loop-t-preserved
loop-t-preserved c =
    let l = c.loop-t in
    let a = c.args in
    let n : length a.xs.now ≡ length a.boards.now = ap length c.requires.4 ∙ length-points a.points.now a.boards.now in
    let s : suc (l.t - 1) ≡ l.t = omega arith in
    let rows = l.invariant.0 ∙ ap (left a.points.now a.boards.now a.xs.now) (sym s) in
    let row = l.invariant.1 ∙ ap (after_row a.points.now a.xs.now) (sym s) in (
      left-turn a.points.now a.boards.now a.xs.now l.rows _ (l.t - 1) (omega arith)
          (row_done a.points.now a.boards.now a.xs.now _ l.row _ (l.t - 1) c.requires.4 (omega arith)
          (all-at (λ b. b < 32) 0 a.boards.now (below_all 32 a.boards.now c.requires.2) (l.t - 1) (omega arith))
          (left-row a.points.now a.boards.now a.xs.now l.rows (l.t - 1) (omega arith) rows) row c.divide.ensures)
          rows,
      after_turn a.points.now a.xs.now l.row _ (l.t - 1) (omega arith) row c.scale_by_difference.ensures,
    )

pub returns : goal.returns
returns c = left_end c.args.points.now c.args.boards.now c.args.xs.now _ c.loop-t.t (omega arith) c.loop-t.invariant.0
