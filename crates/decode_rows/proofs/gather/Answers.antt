-- `decode_rows::gather` meets its contract: what is filled in, before what was there.
-- Assumes nothing.
use Rattle.std.proofs.Common.{ℕ, length, refl, ◌∙◌, arith}
use Rattle.lists.proofs.Pieces.{fill-loop, fill_end, fill-all}
use Rattle.decode_rows.proofs.gather.Goals as goal

pub loop-t-preserved : goal.loop-t-preserved
loop-t-preserved c = fill-loop _ c.args.out.now c.loop-t.out c.loop-t.t _ (omega arith) refl c.loop-t.invariant

pub returns : goal.returns
returns c =
    let out = c.args.out.now in
    let m : ℕ = length out in
    fill_end _ out c.loop-t.out c.loop-t.t m (omega arith) c.loop-t.invariant ∙ fill-all _ out m (omega arith)
