-- `step_bytes::sent_bytes` meets its contract: what is filled in, before what was there.
-- Assumes nothing.
use Rattle.std.proofs.Common.{refl, ◌∙◌, arith}
use Rattle.lists.proofs.Pieces.{fill-loop, fill_end, fill-all}
use Rattle.step_bytes.proofs.sent_bytes.Goals as goal

pub loop-u-preserved : goal.loop-u-preserved
loop-u-preserved c = fill-loop _ c.args.out.now c.loop-u.out c.loop-u.u _ (omega arith) refl c.loop-u.invariant

pub returns : goal.returns
returns c =
    let a = c.args in
    fill_end _ a.out.now c.loop-u.out c.loop-u.u a.m (omega arith) c.loop-u.invariant ∙ fill-all _ a.out.now a.m (omega arith)
