-- `board_lines::check_nodes_joined` meets its contract.
-- Assumes nothing.
use Rattle.std.proofs.Common.{[], ◌∷◌, ◌++◌, not, sym, ap, ◌∙◌}
use Rattle.sizes.specs.declared.Refusal.TheVariants.{Node}
use Rattle.sizes.specs.Refusals.{◌when◌}
use Rattle.board_spec.specs.Calls.{node_line}
use Rattle.line_checks.specs.Steps.{asked}
use Rattle.line_checks.proofs.Answers.{refuses}
use Rattle.line_checks.proofs.Joined.{below_left, below-mid, below_last}
use Rattle.board_lines.proofs.check_nodes_joined.Goals as goal

pub returns-then-below-2 : goal.returns-then-below-2
returns-then-below-2 c =
    let a = c.args in
    c.check_node.ensures
    ∙ ap (λ t. asked (Node when not t)) (below_last a.sizes.n a.boards.now a.others.now a.last (sym c.below.ensures ∙ c.if-below.true) (sym c.below-then-below.ensures ∙ c.if-below-2.true))

pub returns-else-below-2 : goal.returns-else-below-2
returns-else-below-2 c =
    let a = c.args in
    refuses (node_line a.sizes (a.boards.now ++ a.others.now ++ (a.last ∷ []))) (ap not (below-mid a.sizes.n a.boards.now a.others.now a.last (sym c.below-then-below.ensures ∙ c.if-below-2.false)))

pub returns-else-below : goal.returns-else-below
returns-else-below c =
    let a = c.args in
    refuses (node_line a.sizes (a.boards.now ++ a.others.now ++ (a.last ∷ []))) (ap not (below_left a.sizes.n a.boards.now a.others.now a.last (sym c.below.ensures ∙ c.if-below.false)))
