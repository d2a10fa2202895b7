-- `stripe_exchange::exchange_bytes` meets its contract: the bytes of the stripes so far, before what was there.
-- Assumes nothing.
use Rattle.std.proofs.Common.{arith}
use Rattle.lists.proofs.Pieces.{fill-loop, fill_end}
use Rattle.stripe_exchange.proofs.exchange_bytes.Goals as goal

pub loop-s-preserved : goal.loop-s-preserved
loop-s-preserved c = fill-loop _ c.args.out.now c.loop-s.out c.loop-s.s _ (omega arith) c.exchange_byte.ensures c.loop-s.invariant

pub returns : goal.returns
returns c = fill_end _ c.args.out.now c.loop-s.out c.loop-s.s c.args.stripes (omega arith) c.loop-s.invariant
