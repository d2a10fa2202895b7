-- `decode_tables::fill_seeds` meets its contract: what is filled in, before what was there.
-- Assumes nothing.
use Rattle.std.proofs.Common.{◌∙◌, ℕ, length, arith}
use Rattle.lists.proofs.Pieces.{fill-loop, fill_end, fill-all}
use Rattle.decode_tables.proofs.Made.{seeds-made}
use Rattle.decode_tables.proofs.fill_seeds.Goals as goal

pub loop-t-preserved : goal.loop-t-preserved
loop-t-preserved c = fill-loop _ c.args.out.now c.loop-t.out c.loop-t.t _ (omega arith) c.seed.ensures c.loop-t.invariant

pub returns : goal.returns
returns c =
    let a = c.args in
    let m : ℕ = length a.xs.now in
    fill_end _ a.out.now c.loop-t.out c.loop-t.t m (omega arith) c.loop-t.invariant ∙ fill-all _ a.out.now m (omega arith) ∙ seeds-made a.xs.now a.s
