-- `move_tests::check_up` meets its contract. The loop's invariant: the test of the boards that are left is the test of all.
-- Assumes nothing.
use Rattle.std.proofs.Common.{not, sym, ap, ◌∙◌}
use Rattle.line_checks.proofs.Answers.{passes, refuses}
use Rattle.move_tests.specs.Steps.{up_line}
use Rattle.move_tests.proofs.Tests.{walk-next, walk_no, walk_ends}
use Rattle.move_tests.proofs.check_up.Goals as goal

pub loop-i-preserved : goal.loop-i-preserved
loop-i-preserved c = walk-next _ _ _ c.loop-i-test.true (sym c.mark_of.ensures ∙ c.if-not-mark_of.false) ∙ c.loop-i.invariant

pub returns-then-not-mark_of : goal.returns-then-not-mark_of
returns-then-not-mark_of c =
    refuses (up_line c.args.n c.args.marks.now)
    (ap not (sym c.loop-i.invariant ∙ walk_no _ _ _ c.loop-i-test.true (sym c.mark_of.ensures ∙ c.if-not-mark_of.true)))

pub returns : goal.returns
returns c = passes (up_line c.args.n c.args.marks.now) (ap not (sym c.loop-i.invariant ∙ walk_ends _ _ _ c.loop-i-test.false))
