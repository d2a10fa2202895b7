-- `repair_sent::sent` meets its contract: the bytes of the partners so far, before what was there.
-- Assumes nothing.
use Rattle.std.proofs.Common.{ap, ◌+◌, ◌*◌, get_or, ℕ, arith}
use Rattle.lists.proofs.Pieces.{fill-loop}
use Rattle.repair_sent.proofs.Finished.{sent-end}
use Rattle.repair_sent.proofs.sent.Goals as goal

pub loop-u-preserved : goal.loop-u-preserved
loop-u-preserved c =
    let a = c.args in
    fill-loop _ a.out.now c.loop-u.out c.loop-u.u _ (omega arith) (ap (λ (b : ℕ). get_or a.gs.now (b * a.lanes + a.i) 0) c.past-b.ensures) c.loop-u.invariant

pub returns : goal.returns
returns c =
    let a = c.args in
    sent-end a.lanes a.gs.now a.i a.a a.out.now c.loop-u.out c.loop-u.u (omega arith) c.loop-u.invariant
