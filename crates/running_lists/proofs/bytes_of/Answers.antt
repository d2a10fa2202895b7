-- `running_lists::bytes_of` meets its contract. The loop's invariant: the bytes so far, before what was there.
-- Assumes nothing.
use Rattle.std.proofs.Common.{ℕ, length, length-set, get_or, sym, ◌∙◌, arith}
use Rattle.lists.specs.Lists.{fit}
use Rattle.lists.proofs.Pieces.{fill-loop, fill_end, fill-all, tabulate-ext, tabulate-get_d, fit_at, length-fit}
use Rattle.running_lists.proofs.bytes_of.Goals as goal

pub loop-i-preserved : goal.loop-i-preserved
loop-i-preserved c =
    let l = c.loop-i in
    let a = c.args in
    (fill-loop (λ t. get_or a.boards.now t 0) a.bytes.now l.bytes l.i _ (omega (arith, c.loop-i-test.true)) c.byte_at.ensures l.invariant.0, length-set l.bytes l.i _ ∙ l.invariant.1)

pub returns : goal.returns
returns c =
    let l = c.loop-i in
    let a = c.args in
    let f : ℕ → ℕ = λ t. get_or a.boards.now t 0 in
    let m = length a.bytes.now in
    fill_end f a.bytes.now l.bytes l.i m (omega (arith, c.loop-i-test.false, l.auto.i-end, l.invariant.1)) l.invariant.0
    ∙ fill-all f a.bytes.now m (omega arith)
    ∙ tabulate-ext m f (λ t. get_or (fit m a.boards.now) t 0) (λ t h. sym (fit_at m a.boards.now t h))
    ∙ tabulate-get_d m (fit m a.boards.now) 0 (length-fit m a.boards.now)
