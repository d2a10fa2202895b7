-- `check_lists::check_named` meets its contract: the tests in their order.
-- Assumes nothing.
use Rattle.std.proofs.Common.{not, sym, ◌∙◌}
use Rattle.lists.specs.Tests.{alls, among}
use Rattle.sizes.specs.declared.Refusal.TheVariants.{Repeat}
use Rattle.sizes.specs.Refusals.{◌when◌}
use Rattle.line_checks.proofs.Answers.{passes, refuses}
use Rattle.list_tests.specs.Steps.{repeat_tests}
use Rattle.list_tests.proofs.Lists.{left-fails, left-holds, three-hold, third-fails}
use Rattle.check_lists.proofs.check_named.Goals as goal

pub returns-then-apart-2 : goal.returns-then-apart-2
returns-then-apart-2 c =
    let a = c.args in
    passes (Repeat when not (alls (repeat_tests a.d a.e a.fresh.now a.helpers.now a.standins.now)))
    (three-hold _ _ _ (sym c.different.ensures ∙ c.if-different.true) (sym c.runs_differ.ensures ∙ c.if-runs_differ.true)
    (sym (left-holds (λ x. not (among a.fresh.now x)) a.helpers.now a.standins.now (sym c.apart.ensures ∙ c.if-apart.true))
    ∙ sym c.apart-then-apart.ensures ∙ c.if-apart-2.true))

pub returns-else-apart-2 : goal.returns-else-apart-2
returns-else-apart-2 c =
    let a = c.args in
    refuses (Repeat when not (alls (repeat_tests a.d a.e a.fresh.now a.helpers.now a.standins.now)))
    (third-fails _ _ _ (sym c.different.ensures ∙ c.if-different.true) (sym c.runs_differ.ensures ∙ c.if-runs_differ.true)
    (sym (left-holds (λ x. not (among a.fresh.now x)) a.helpers.now a.standins.now (sym c.apart.ensures ∙ c.if-apart.true))
    ∙ sym c.apart-then-apart.ensures ∙ c.if-apart-2.false))

pub returns-else-apart : goal.returns-else-apart
returns-else-apart c =
    let a = c.args in
    refuses (Repeat when not (alls (repeat_tests a.d a.e a.fresh.now a.helpers.now a.standins.now)))
    (third-fails _ _ _ (sym c.different.ensures ∙ c.if-different.true) (sym c.runs_differ.ensures ∙ c.if-runs_differ.true)
    (left-fails (λ x. not (among a.fresh.now x)) a.helpers.now a.standins.now (sym c.apart.ensures ∙ c.if-apart.false)))
