-- `repair_factors::pair_rows` meets its contract: the helpers below h have their rows.
-- Assumes nothing.
use Rattle.std.proofs.Common.{◌∙◌, ◌/◌, length, arith}
use Rattle.lagrange_factors.proofs.Values.{board-below, below_more, boards-below}
use Rattle.repair_factors.proofs.Pairs.{rows_start, rows-turn, rows_end, served, near-is}
use Rattle.repair_factors.proofs.pair_rows.Goals as goal

pub loop-h-init : goal.loop-h-init
loop-h-init c = let a = c.args in rows_start a.points.now a.n a.d a.c a.fresh.now a.helpers.now a.out.now c.requires.11

pub lagrange_rows-requires : goal.lagrange_rows-requires
lagrange_rows-requires c =
    let p = c.requires in
    (p.0, p.1, rw c.boards_from.ensures (boards-below c.args.n c.loop-h.h (length c.loop-h.near) c.loop-h-test.true p.2), omega arith, omega arith)

pub put_rows-requires : goal.put_rows-requires
put_rows-requires c =
    let p = c.requires in
    (p.3, p.4, omega arith, below_more c.args.n 32 c.args.fresh.now p.2 p.5, p.7, p.8, omega arith)

pub loop-h-preserved : goal.loop-h-preserved
loop-h-preserved c =
    let a = c.args in
    let l = c.loop-h in
    rows-turn a.points.now a.n a.d a.c a.fresh.now a.helpers.now a.out.now l.h _ _ l.out _ c.requires.11
    (λ p k. let b = board-below a.n a.fresh.now (p / a.d) c.requires.5 (served p a.d (length a.fresh.now) (omega arith) (omega arith)) in omega arith)
    (near-is l.h a.n (length l.near) a.c _ (l.auto.near ∙ c.requires.9) c.boards_from.ensures)
    c.lagrange_rows.ensures l.invariant c.put_rows.ensures

pub returns : goal.returns
returns c =
    let a = c.args in
    rows_end a.points.now a.n a.d a.c a.fresh.now a.helpers.now a.out.now c.loop-h.h c.loop-h.out
    (λ p k. let b = board-below a.n a.helpers.now p c.requires.6 k in omega arith) c.loop-h.invariant
