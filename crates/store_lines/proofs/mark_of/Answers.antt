-- `store_lines::mark_of` meets its contract: past the marks nothing is on.
-- Assumes nothing.
use Rattle.std.proofs.Common.{false, sym}
use lib.ListN.{get_or-eq_default}
use Rattle.store_lines.proofs.mark_of.Goals as goal

pub returns-else-board-marks : goal.returns-else-board-marks
returns-else-board-marks c = sym (get_or-eq_default c.args.marks.now false c.if-board-marks.false)
