-- `text_lines::points_len` meets its contract: the name, =, the pairs and byte 0A, or nothing.
-- Assumes nothing.
use mathlib.Core.Path.{sym, ap, ◌∙◌}
use native.Mathlib.Omega.{arith}
use lib.ListN.{length}
use Rattle.text_lines.proofs.Orders.{unsaid, length-said}
use borrow.Author.Rules.{rules}
use Rattle.text_lines.proofs.points_len.Statement.{statement}
use Rattle.text_lines.proofs.points_len.Tie as tie

returns : tie.Need-returns-then-in_order
returns c = let k = c.before in sym (ap length (unsaid k.before.before.args.points.now (sym k.in_order.ensures ∙ c.if-in_order.true)))

returns-2 : tie.Need-returns
returns-2 c = let k = c.before in omega (arith, length-said k.before.before.args.points.now (sym k.in_order.ensures ∙ c.if-in_order.false))

pub points_len_spec : {M : Type 1} → statement M
points_len_spec = tie.close (tie.spec (λ c κs. search rules) returns (λ c. search rules) (λ c. search rules) returns-2)
