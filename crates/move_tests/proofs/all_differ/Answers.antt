-- `move_tests::all_differ` meets its contract.
-- Assumes nothing.
use Rattle.std.proofs.Common.{sym, ◌∙◌}
use Rattle.move_tests.proofs.Tests.{first-has, second-has, neither-has}
use Rattle.move_tests.proofs.all_differ.Goals as goal

pub returns-then-among_from : goal.returns-then-among_from
returns-then-among_from c = let a = c.args in first-has a.board a.helpers.now a.partners.now (sym c.among_from.ensures ∙ c.if-among_from.true)

pub returns-then-among_from-2 : goal.returns-then-among_from-2
returns-then-among_from-2 c =
    let a = c.args in
    second-has a.board a.helpers.now a.partners.now (sym c.among_from.ensures ∙ c.if-among_from.false) (sym c.among_from-2.ensures ∙ c.if-among_from-2.true)

pub returns : goal.returns
returns c =
    let a = c.args in
    c.both_differ.ensures
    ∙ neither-has a.board a.helpers.now a.partners.now (sym c.among_from.ensures ∙ c.if-among_from.false) (sym c.among_from-2.ensures ∙ c.if-among_from-2.false)
