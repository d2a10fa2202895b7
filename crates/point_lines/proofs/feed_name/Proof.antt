-- `point_lines::feed_name` meets its contract, by the test.
-- Assumes nothing.
use mathlib.Core.Path.{sym, ◌∙◌}
use Rattle.number_lines.proofs.Picks.{if-eq, if-ne}
use borrow.Author.Rules.{rules}
use Rattle.point_lines.proofs.feed_name.Statement.{statement}
use Rattle.point_lines.proofs.feed_name.Tie as tie

returns : tie.Need-returns-then-b-name
returns c = sym (if-eq c.before.before.before.args.b _ _ _ c.if-b-name.true)

returns-2 : tie.Need-returns
returns-2 c = let at = c.before in c.turned.ensures ∙ sym (if-ne at.before.before.before.args.b _ _ _ at.if-b-name.false)

pub feed_name_spec : {M : Type 1} → statement M
feed_name_spec = tie.close (tie.spec (λ c. search rules) (λ c. search rules) returns (λ c κs. search rules) returns-2)
