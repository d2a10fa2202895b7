-- `edit_put::add_kept` meets its contract: what is kept stands in the working array, and is added.
-- Assumes nothing.
use Rattle.std.proofs.Common.{arith}
use Rattle.sizes.proofs.Legal.{legal-facts, α-most}
use Rattle.edit_put.proofs.add_kept.Goals as goal

pub slice_bounds-kept-end : goal.slice_bounds-kept-end
slice_bounds-kept-end c = omega (arith, α-most _ (legal-facts _ c.requires.0), c.requires.3)
