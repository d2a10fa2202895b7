-- `decode_shares::starts` meets its contract: the places so far, before what was there.
-- Assumes nothing.
use Rattle.std.proofs.Common.{◌*◌, ◌≤◌, mul-le-mul, length-set, refl, ◌∙◌, arith}
use Rattle.lists.proofs.Pieces.{fill-loop}
use Rattle.row_dots.proofs.Rows.{changed}
use Rattle.decode_shares.proofs.starts.Goals as goal

pub overflow_mul-out : goal.overflow_mul-out
overflow_mul-out c =
    let l = c.loop-t in
    let far : l.t ≤ 32 = omega (arith, c.loop-t-test.true, c.requires.1) in
    omega (arith, mul-le-mul far c.requires.0)

pub loop-t-preserved : goal.loop-t-preserved
loop-t-preserved c =
    let l = c.loop-t in
    (fill-loop (λ t. t * c.args.share) c.args.out.now l.out l.t _ (omega (arith, c.loop-t-test.true)) refl l.invariant.0, length-set l.out l.t _ ∙ l.invariant.1)

pub returns : goal.returns
returns c =
    let l = c.loop-t in
    changed _ c.args.out.now l.out l.t (omega (arith, l.auto.t-end)) (omega (arith, c.loop-t-test.false)) l.invariant.0
