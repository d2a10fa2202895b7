-- `stripe_exchange::exchanged` meets its contract: what is filled in, before what was there.
-- Assumes nothing.
use Rattle.std.proofs.Common.{refl, ◌∙◌, ◌-◌, arith}
use Rattle.lists.proofs.Pieces.{fill-loop, fill_end, fill-all}
use Rattle.stripe_exchange.proofs.Packets.{exchanged-made}
use Rattle.stripe_exchange.proofs.exchanged.Goals as goal

pub loop-t-preserved : goal.loop-t-preserved
loop-t-preserved c = fill-loop _ c.args.out.now c.loop-t.out c.loop-t.t _ (omega arith) refl c.loop-t.invariant

pub returns : goal.returns
returns c =
    let a = c.args in
    fill_end _ a.out.now c.loop-t.out c.loop-t.t (a.sizes.r - 1) (omega arith) c.loop-t.invariant
    ∙ fill-all _ a.out.now (a.sizes.r - 1) (omega arith)
    ∙ exchanged-made a.sizes a.stripes a.s a.exchanges.now (omega arith)
