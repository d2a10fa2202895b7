-- `step_exchange::exchange_at` meets its contract: space for the factors is lent.
-- Assumes nothing.
use Rattle.std.proofs.Common.{arith}
use Rattle.sizes.proofs.Legal.{legal-facts}
use Rattle.step_exchange.proofs.exchange_at.Goals as goal

pub whole_vectors-gl-requires : goal.whole_vectors-gl-requires
whole_vectors-gl-requires c = let f = legal-facts _ c.requires.0 in omega arith
