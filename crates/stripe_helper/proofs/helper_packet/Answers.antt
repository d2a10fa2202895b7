-- `stripe_helper::helper_packet` meets its contract: space for the factors is lent.
-- Assumes nothing.
use Rattle.std.proofs.Common.{arith}
use Rattle.sizes.proofs.Legal.{legal-facts}
use Rattle.stripe_helper.proofs.helper_packet.Goals as goal

pub overflow_add-sizes : goal.overflow_add-sizes
overflow_add-sizes c = let f = legal-facts _ c.requires.0 in omega arith

pub whole_vectors-fl-requires : goal.whole_vectors-fl-requires
whole_vectors-fl-requires c = let f = legal-facts _ c.requires.0 in omega arith
