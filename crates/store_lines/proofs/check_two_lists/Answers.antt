-- `store_lines::check_two_lists` meets its contract.
-- Assumes nothing.
use Rattle.std.proofs.Common.{◌++◌, not, sym, ap, ◌∙◌}
use Rattle.sizes.specs.declared.Refusal.TheVariants.{Node}
use Rattle.sizes.specs.Refusals.{◌when◌}
use Rattle.board_spec.specs.Calls.{node_line}
use Rattle.line_checks.specs.Steps.{asked}
use Rattle.line_checks.proofs.Answers.{refuses}
use Rattle.store_lines.proofs.Repairs.{below_left, below_right}
use Rattle.store_lines.proofs.check_two_lists.Goals as goal

-- the second list's answer is that of both
pub returns-then-below : goal.returns-then-below
returns-then-below c =
    let a = c.args in
    c.check_nodes.ensures ∙ ap (λ t. asked (Node when not t)) (below_right a.sizes.n a.boards.now a.others.now (sym c.below.ensures ∙ c.if-below.true))

pub returns : goal.returns
returns c =
    let a = c.args in
    refuses (node_line a.sizes (a.boards.now ++ a.others.now)) (ap not (below_left a.sizes.n a.boards.now a.others.now (sym c.below.ensures ∙ c.if-below.false)))
