-- `list_tests::both_differ` meets its contract.
-- Assumes nothing.
use Rattle.std.proofs.Common.{sym, ◌∙◌}
use Rattle.list_tests.proofs.Lists.{twice-left, twice-right, both-different}
use Rattle.list_tests.proofs.both_differ.Goals as goal

pub returns-then-different-2 : goal.returns-then-different-2
returns-then-different-2 c =
    c.apart.ensures
    ∙ both-different c.args.boards.now c.args.others.now (sym c.different.ensures ∙ c.if-different.true) (sym c.different-then-different.ensures ∙ c.if-different-2.true)

pub returns-else-different-2 : goal.returns-else-different-2
returns-else-different-2 c = sym (twice-right c.args.boards.now c.args.others.now (sym c.different-then-different.ensures ∙ c.if-different-2.false))

pub returns-else-different : goal.returns-else-different
returns-else-different c = sym (twice-left c.args.boards.now c.args.others.now (sym c.different.ensures ∙ c.if-different.false))
