-- `check_move::check_move` meets its contract: each early return is the first line that holds.
-- Assumes nothing.
use Rattle.std.proofs.Common.{sym, ◌∙◌, rules}
use Rattle.store_spec.proofs.Records.{sound-facts}
use Rattle.check_begin.proofs.Facts.{area-facts}
use Rattle.check_move.proofs.check_move.Goals as goal

pub check_named-requires : goal.check_named-requires
check_named-requires c = ((sound-facts _ (area-facts _ _ _ (sym c.check_area.ensures ∙ c.in_ok-check_area.was)).is-sound).is-legal, search rules)
