-- `stripe_exchange::received` meets its contract: what is filled in, before what was there.
-- Assumes nothing.
use Rattle.std.proofs.Common.{refl, ◌∙◌, arith}
use Rattle.lists.proofs.Pieces.{fill-loop, fill_end, fill-all}
use Rattle.stripe_exchange.proofs.Packets.{received-made}
use Rattle.stripe_exchange.proofs.received.Goals as goal

pub loop-t-preserved : goal.loop-t-preserved
loop-t-preserved c = fill-loop _ c.args.out.now c.loop-t.out c.loop-t.t _ (omega arith) refl c.loop-t.invariant

pub returns : goal.returns
returns c =
    let a = c.args in
    fill_end _ a.out.now c.loop-t.out c.loop-t.t a.sizes.d (omega arith) c.loop-t.invariant
    ∙ fill-all _ a.out.now a.sizes.d (omega arith)
    ∙ received-made a.sizes a.stripes a.b a.s a.packets.now (omega arith) (omega arith)
