-- `stripe_exchange::exchange_packet` meets its contract: space for the factors is lent.
-- Assumes nothing.
use Rattle.std.proofs.Common.{arith}
use Rattle.sizes.proofs.Legal.{legal-facts}
use Rattle.stripe_exchange.proofs.exchange_packet.Goals as goal

pub whole_vectors-gl-requires : goal.whole_vectors-gl-requires
whole_vectors-gl-requires c = let f = legal-facts _ c.requires.0 in omega arith
