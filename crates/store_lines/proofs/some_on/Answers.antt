-- `store_lines::some_on` meets its contract. The loop's invariant: the test of what is left is the test of all from `from` on.
-- Assumes nothing.
use Rattle.std.proofs.Common.{sym, ap, ◌∙◌, drop_of_length-le}
use Rattle.store_spec.specs.Record.{all_off}
use Rattle.store_lines.proofs.Walks.{off-no, off_next}
use Rattle.store_lines.proofs.some_on.Goals as goal

pub returns-then-marks-i : goal.returns-then-marks-i
returns-then-marks-i c = sym (off-no _ _ c.loop-i-test.true c.if-marks-i.true) ∙ c.loop-i.invariant

pub loop-i-preserved : goal.loop-i-preserved
loop-i-preserved c = off_next _ _ c.loop-i-test.true c.if-marks-i.false ∙ c.loop-i.invariant

pub returns : goal.returns
returns c = sym (ap all_off (drop_of_length-le _ c.loop-i-test.false)) ∙ c.loop-i.invariant
