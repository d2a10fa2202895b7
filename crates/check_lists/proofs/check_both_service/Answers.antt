-- `check_lists::check_both_service` meets its contract.
-- Assumes nothing.
use Rattle.std.proofs.Common.{◌++◌, Bool, false, not, get_or, sym, ap, ◌∙◌}
use Rattle.lists.specs.Tests.{every}
use Rattle.sizes.specs.declared.Refusal.TheVariants.{Down}
use Rattle.sizes.specs.Refusals.{◌when◌}
use Rattle.line_checks.specs.Steps.{asked}
use Rattle.line_checks.proofs.Answers.{refuses}
use Rattle.list_tests.proofs.Lists.{left-fails, left-holds}
use Rattle.check_lists.proofs.check_both_service.Goals as goal

-- the second list's answer is that of both
pub returns-then-all_on : goal.returns-then-all_on
returns-then-all_on c =
    let a = c.args in
    c.check_service.ensures
    ∙ ap (λ (t : Bool). asked (Down when not t)) (left-holds (λ i. get_or a.marks.now i false) a.boards.now a.others.now (sym c.all_on.ensures ∙ c.if-all_on.true))

pub returns : goal.returns
returns c =
    let a = c.args in
    refuses (Down when not (every (λ i. get_or a.marks.now i false) (a.boards.now ++ a.others.now)))
    (ap not (left-fails (λ i. get_or a.marks.now i false) a.boards.now a.others.now (sym c.all_on.ensures ∙ c.if-all_on.false)))
