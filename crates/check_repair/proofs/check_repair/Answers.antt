-- `check_repair::check_repair` meets its contract: each early return is the first line that holds.
-- Assumes nothing.
use Rattle.std.proofs.Common.{sym, ◌∙◌}
use Rattle.store_spec.proofs.Records.{sound-facts}
use Rattle.check_begin.proofs.Facts.{area-facts}
use Rattle.check_repair.proofs.check_repair.Goals as goal

pub check_lists-requires : goal.check_lists-requires
check_lists-requires c = (sound-facts _ (area-facts _ _ _ (sym c.check_area.ensures ∙ c.in_ok-check_area.was)).is-sound).is-legal
