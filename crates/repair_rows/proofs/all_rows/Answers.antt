-- `repair_rows::all_rows` meets its contract: space is lent.
-- Assumes nothing.
use Rattle.std.proofs.Common.{rules}
use Rattle.sizes.proofs.Legal.{legal-facts}
use Rattle.repair_rows.proofs.all_rows.Goals as goal

pub slice_bounds-boards-end : goal.slice_bounds-boards-end
slice_bounds-boards-end c = let f = legal-facts _ c.requires.0 in search rules

pub slice_bounds-all-end : goal.slice_bounds-all-end
slice_bounds-all-end c = let f = legal-facts _ c.requires.0 in search rules
