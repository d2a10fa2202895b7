-- `line_checks::check_repeat` meets its contract.
-- Assumes nothing.
use borrow.Author.Rules.{rules}
use mathlib.Core.Path.{refl, sym, ◌∙◌}
use Rattle.line_checks.proofs.check_repeat.Statement.{statement}
use Rattle.line_checks.proofs.check_repeat.Tie as tie

returns : tie.Need-returns-then-different
returns c = rw (sym c.before.different.ensures ∙ c.if-different.true) refl

returns-2 : tie.Need-returns-else-different
returns-2 c = rw (sym c.before.different.ensures ∙ c.if-different.false) refl

pub check_repeat_spec : {M : Type 1} → statement M
check_repeat_spec =
    tie.close
    (tie.spec
    (λ c κs. search rules)
    returns
    returns-2)
