-- `repair_rows::other_boards` meets its contract: the boards so far, before what was there.
-- Assumes nothing.
use Rattle.std.proofs.Common.{ap, ◌∙◌, ◌-◌, length, get_or, ℕ, arith}
use Rattle.lists.proofs.Pieces.{fill-loop, fill_end, fill-all}
use Rattle.repair_rows.proofs.other_boards.Goals as goal

pub loop-u-preserved : goal.loop-u-preserved
loop-u-preserved c =
    let a = c.args in
    fill-loop _ a.out.now c.loop-u.out c.loop-u.u _ (omega arith) (ap (λ (b : ℕ). get_or a.fresh.now b 0) c.past-b.ensures) c.loop-u.invariant

pub returns : goal.returns
returns c =
    let a = c.args in
    let m : ℕ = length a.fresh.now - 1 in
    fill_end _ a.out.now c.loop-u.out c.loop-u.u m (omega arith) c.loop-u.invariant ∙ fill-all _ a.out.now m (omega arith)
