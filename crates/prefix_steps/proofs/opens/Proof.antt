-- `prefix_steps::opens` meets its contract, by the tests.
-- Assumes nothing.
use mathlib.Core.Path.{sym, ◌∙◌}
use borrow.Author.Rules.{rules}
use Rattle.number_lines.proofs.Picks.{yes, no}
use Rattle.prefix_spec.specs.Prefix.{opens}
use Rattle.prefix_steps.proofs.opens.Statement.{statement}
use Rattle.prefix_steps.proofs.opens.Tie as tie

returns : tie.Need-returns-then-both
unfolding opens
returns c = sym (yes _ _ _ (sym c.before.both.ensures ∙ c.if-both.true))

returns-2 : tie.Need-returns
unfolding opens
returns-2 c = c.both-2.ensures ∙ sym (no _ _ _ (sym c.before.before.both.ensures ∙ c.before.if-both.false))

pub opens_spec : {M : Type 1} → statement M
opens_spec = tie.close (tie.spec (λ c κs. search rules) returns (λ c. search rules) (λ c. search rules) (λ c. search rules) (λ c κs. search rules) returns-2)
