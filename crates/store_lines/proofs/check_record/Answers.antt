-- `store_lines::check_record` meets its contract: sizes that are not legal are no record's.
-- Assumes nothing.
use Rattle.std.proofs.Common.{refl, sym, ◌∙◌}
use Rattle.record.specs.Records.{record_of}
use Rattle.store_lines.proofs.Sound.{not-legal}
use Rattle.store_lines.proofs.check_record.Goals as goal

pub returns-else-legal : goal.returns-else-legal
returns-else-legal c = rw (not-legal (record_of c.args.kept) (sym c.legal.ensures ∙ c.if-legal.false)) refl
