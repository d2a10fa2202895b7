-- `check_write::check_write` meets its contract: each early return is the first line that holds.
-- Assumes nothing.
use Rattle.std.proofs.Common.{sym, ◌∙◌}
use Rattle.store_spec.proofs.Records.{sound-facts}
use Rattle.check_begin.proofs.Facts.{area-facts}
use Rattle.check_write.proofs.check_write.Goals as goal

pub check_fits-requires : goal.check_fits-requires
check_fits-requires c =
    let f = sound-facts _ (area-facts _ _ _ (sym c.check_area.ensures ∙ c.in_ok-check_area.was)).is-sound in
    record { is-legal = f.is-legal; few = f.cap-high }
