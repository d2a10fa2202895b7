-- `repair_factors::put_rows` meets its contract: the rows so far, before what was there.
-- Assumes nothing.
use Rattle.std.proofs.Common.{ap, ◌∙◌, ◌≡◌, ◌/◌, ◌<◌, eqb, length, get_or, ℕ, List, arith}
use Rattle.lists.specs.Tests.{pick}
use Rattle.lists.specs.Lists.{piece}
use Rattle.lists.proofs.Pieces.{part-piece, length-piece}
use Rattle.row_dots.proofs.Rows.{join-loop, join-end}
use Rattle.lagrange_factors.proofs.Values.{board-below}
use Rattle.repair_factors.specs.Steps.{column_row}
use Rattle.repair_factors.proofs.Pairs.{length-column, length-pick, kept_piece, served}
use Rattle.repair_factors.proofs.put_rows.Goals as goal

pub put_row-requires : goal.put_row-requires
put_row-requires c =
    let p = c.requires in (
      p.1,
      board-below 32 c.args.fresh.now (c.loop-p.p / c.args.d) p.3 (served c.loop-p.p c.args.d (length c.args.fresh.now) (omega arith) (omega arith)),
      p.2,
      ap length (part-piece 32 c.loop-p.p c.loop-p.out) ∙ length-piece 32 c.loop-p.p c.loop-p.out (omega arith),
    )

pub loop-p-preserved : goal.loop-p-preserved
loop-p-preserved c =
    let a = c.args in
    let l = c.loop-p in
    let col : ℕ → List ℕ = λ p. column_row a.c (get_or a.fresh.now (p / a.d) 0) a.rows.now in
    let f : ℕ → List ℕ = λ p. pick (eqb (get_or a.helpers.now p 0) a.h) (col p) (piece 32 p a.out.now) in
    let long : (i : ℕ) → i < l.p → length (f i) ≡ 32 =
    λ i k. length-pick (eqb (get_or a.helpers.now i 0) a.h) (col i) (piece 32 i a.out.now) 32 (length-column a.c (get_or a.fresh.now (i / a.d) 0) a.rows.now) (length-piece 32 i a.out.now (omega arith)) in
    join-loop f 32 l.p a.out.now l.out _ long
    (c.put_row.ensures ∙ ap (pick (eqb (get_or a.helpers.now l.p 0) a.h) (col l.p)) (part-piece 32 l.p l.out ∙ kept_piece f 32 l.p a.out.now l.out long l.invariant))
    l.invariant

pub returns : goal.returns
returns c = join-end _ 32 c.loop-p.p (length c.args.helpers.now) c.args.out.now c.loop-p.out (omega arith) (omega arith) c.loop-p.invariant
