-- `running_lists::boards_of` meets its contract. The loop's invariant: the boards so far, before what was there.
-- Assumes nothing.
use Rattle.std.proofs.Common.{ℕ, length, length-set, get_or, refl, ◌∙◌, arith}
use Rattle.lists.proofs.Pieces.{fill-loop, fill_end, fill-all, tabulate-get_d}
use Rattle.running_lists.proofs.boards_of.Goals as goal

pub loop-i-preserved : goal.loop-i-preserved
loop-i-preserved c =
    let l = c.loop-i in
    let a = c.args in
    (fill-loop (λ t. get_or a.bytes.now t 0) a.boards.now l.boards l.i _ (omega (arith, c.loop-i-test.true, c.requires)) c.from.ensures l.invariant.0, length-set l.boards l.i _ ∙ l.invariant.1)

pub returns : goal.returns
returns c =
    let l = c.loop-i in
    let a = c.args in
    let f : ℕ → ℕ = λ t. get_or a.bytes.now t 0 in
    fill_end f a.boards.now l.boards l.i (length a.bytes.now) (omega (arith, c.loop-i-test.false, l.auto.i-end)) l.invariant.0
    ∙ fill-all f a.boards.now (length a.bytes.now) (omega (arith, c.requires))
    ∙ tabulate-get_d (length a.bytes.now) a.bytes.now 0 refl
