-- `running::check_both` meets its contract: SIZE by the store's record, then by that of the repair.
-- Assumes nothing.
use Rattle.std.proofs.Common.{sym, ◌∙◌}
use Rattle.lists.proofs.Tests.{not-no}
use Rattle.store_spec.specs.Calls.{record_line}
use Rattle.store_spec.proofs.Records.{sound-facts}
use Rattle.line_checks.proofs.Answers.{passed}
use Rattle.record.specs.Records.{record_of}
use Rattle.running.proofs.check_both.Goals as goal

pub check_running-requires : goal.check_running-requires
check_running-requires c =
    let s = record_of c.args.kept in
    (sound-facts s (not-no _ (passed (record_line s) (sym c.check_record.ensures ∙ c.in_ok-check_record.was)))).is-legal
