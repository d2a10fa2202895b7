-- `decode_tables::factor_rows_in` meets its contract: the boards so far, before what was there.
-- Assumes nothing.
use Rattle.std.proofs.Common.{◌<◌, ◌-◌, ◌*◌, length, get_or, arith, length-take, length-drop}
use Rattle.lists.proofs.Alls.{all-at}
use Rattle.lists.proofs.Boards.{below_all}
use Rattle.sizes.proofs.Legal.{row_fits}
use Rattle.decode_laws.proofs.Coefs.{length-factors}
use Rattle.decode_laws.proofs.Loops.{join-loop, join-end}
use Rattle.decode_tables.proofs.factor_rows_in.Goals as goal

pub factors_in-requires : goal.factors_in-requires
factors_in-requires c =
    let p = c.requires in
    let e = row_fits _ _ ((c.args.sizes.n - c.args.c) * 32) c.loop-t-test.true in (
      p.0,
      p.1,
      p.2,
      p.3,
      all-at (λ i. i < c.args.sizes.n) 0 c.args.boards.now (below_all c.args.sizes.n c.args.boards.now p.5) c.loop-t.t c.loop-t-test.true,
      omega arith,
      omega arith,
      simp (length-take, length-drop) (omega (arith, e)),
    )

pub loop-t-preserved : goal.loop-t-preserved
loop-t-preserved c =
    let a = c.args in
    let l = c.loop-t in
    join-loop _ ((a.sizes.n - a.c) * 32) l.t a.out.now l.out _ (λ t h. length-factors a.sizes a.points.now a.c (get_or a.boards.now t 0)) c.factors_in.ensures l.invariant

pub returns : goal.returns
returns c =
    let a = c.args in
    join-end _ ((a.sizes.n - a.c) * 32) c.loop-t.t (length a.boards.now) a.out.now c.loop-t.out (omega arith) c.requires.8 c.loop-t.invariant
