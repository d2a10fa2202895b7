-- `decode_values::top` meets its contract: what is filled in, before what was there.
-- Assumes nothing.
use Rattle.std.proofs.Common.{◌∙◌, ◌*◌, ℕ, length, arith, length-take, length-drop}
use Rattle.lists.proofs.Pieces.{fill-loop, fill_end, fill-all}
use Rattle.sizes.proofs.Legal.{row_fits}
use Rattle.kept_rows.proofs.Made.{top-made}
use Rattle.decode_values.proofs.top.Goals as goal

pub dot-requires : goal.dot-requires
dot-requires c = let e = row_fits _ _ c.args.d c.loop-t-test.true in simp (length-take, length-drop) (omega (arith, e))

pub loop-t-preserved : goal.loop-t-preserved
loop-t-preserved c =
    let a = c.args in
    let l = c.loop-t in
    let e = row_fits _ _ a.d c.loop-t-test.true in
    fill-loop _ a.out.now l.out l.t _ (omega arith) (top-made a.m (l.t * a.d) a.row.now a.va.now _ c.requires.1 c.requires.2 (omega (arith, e)) c.dot.ensures) l.invariant

pub returns : goal.returns
returns c =
    let a = c.args in
    let m : ℕ = length a.out.now in
    fill_end _ a.out.now c.loop-t.out c.loop-t.t m (omega arith) c.loop-t.invariant ∙ fill-all _ a.out.now m (omega arith)
