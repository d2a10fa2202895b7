-- `check_lists::runs_differ` meets its contract. The loop's invariant: the test of what is left is the test of the whole.
-- Assumes nothing.
use Rattle.std.proofs.Common.{sym, ◌∙◌}
use Rattle.list_tests.proofs.Lists.{runs-no, runs-next}
use Rattle.check_lists.proofs.runs_differ.Goals as goal

pub returns-then-not-both_differ : goal.returns-then-not-both_differ
returns-then-not-both_differ c =
    let a = c.args in
    sym (sym c.loop-a.invariant ∙ runs-no a.d a.e a.fresh.now a.helpers.now a.standins.now c.loop-a.a c.loop-a-test.true (sym c.both_differ.ensures ∙ c.if-not-both_differ.true))

pub loop-a-preserved : goal.loop-a-preserved
loop-a-preserved c =
    let a = c.args in
    runs-next a.d a.e a.fresh.now a.helpers.now a.standins.now c.loop-a.a c.loop-a-test.true (sym c.both_differ.ensures ∙ c.if-not-both_differ.false) ∙ c.loop-a.invariant
