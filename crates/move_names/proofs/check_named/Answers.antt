-- `move_names::check_named` meets its contract: each early return is the first line that holds.
-- Assumes nothing.
use Rattle.std.proofs.Common.{arith}
use Rattle.sizes.proofs.Legal.{legal-facts}
use Rattle.move_names.proofs.check_named.Goals as goal

pub overflow_sub-want : goal.overflow_sub-want
overflow_sub-want c = omega (arith, (legal-facts _ c.requires.0).some-fresh)

pub check_new-requires : goal.check_new-requires
check_new-requires c = omega (arith, (legal-facts _ c.requires.0).few, c.requires.1)
