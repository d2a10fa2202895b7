-- `check_lists::check_three_lists` meets its contract.
-- Assumes nothing.
use Rattle.std.proofs.Common.{◌++◌, Bool, not, ltb, sym, ap, ◌∙◌}
use Rattle.sizes.specs.declared.Refusal.TheVariants.{Node}
use Rattle.sizes.specs.Refusals.{◌when◌}
use Rattle.board_spec.specs.Calls.{node_line}
use Rattle.line_checks.specs.Steps.{asked}
use Rattle.line_checks.proofs.Answers.{refuses}
use Rattle.list_tests.proofs.Lists.{left-fails, left-holds}
use Rattle.check_lists.proofs.check_three_lists.Goals as goal

-- the others' answer is that of all
pub returns-then-below : goal.returns-then-below
returns-then-below c =
    let a = c.args in
    c.check_two_lists.ensures
    ∙ ap (λ (t : Bool). asked (Node when not t)) (left-holds (λ x. ltb x a.sizes.n) a.boards.now (a.others.now ++ a.more.now) (sym c.below.ensures ∙ c.if-below.true))

pub returns : goal.returns
returns c =
    let a = c.args in
    refuses (node_line a.sizes (a.boards.now ++ (a.others.now ++ a.more.now)))
    (ap not (left-fails (λ x. ltb x a.sizes.n) a.boards.now (a.others.now ++ a.more.now) (sym c.below.ensures ∙ c.if-below.false)))
