-- `text_lines::put_points` meets its contract: the line, or nothing.
-- Assumes nothing.
use mathlib.Core.Path.{◌≡◌, sym, ◌∙◌}
use mathlib.Core.Bool.{false}
use Rattle.text_lines.specs.Steps.{in_order}
use Rattle.text_lines.proofs.Orders.{unsaid, said}
use Rattle.text_lines.proofs.Writes.{none, same-room}
use borrow.Author.Rules.{rules}
use Rattle.text_lines.proofs.put_points.Statement.{statement}
use Rattle.text_lines.proofs.put_points.Tie as tie

-- places in the code
abbrev else-in_order-of-slice_known-2-1 : tie.After-slice_known-2-1 → tie.Else-in_order
else-in_order-of-slice_known-2-1 c = c.before.before.before.before.before.before

-- the points are not in order
said_here : (c : tie.Else-in_order) → in_order c.args.points.now ≡ false
said_here c = sym c.in_order.ensures ∙ c.if-in_order.false

returns : tie.Need-returns-then-in_order
returns c =
    rw (unsaid c.args.points.now (sym c.in_order.ensures ∙ c.if-in_order.true)) (none c.args.out.now c.args.at)

line-asks : tie.Need-put_pairs_line-requires
line-asks c κs = rw (said c.args.points.now (said_here c.before.before.before)) at c.requires

returns-2 : tie.Need-returns
returns-2 c =
    rw (said c.args.points.now (said_here (else-in_order-of-slice_known-2-1 c))) c.put_pairs_line.ensures

pub put_points_spec : {M : Type 1} → statement M
put_points_spec =
    tie.close
    (tie.spec
    (λ c κs. search rules)
    returns
    line-asks
    (λ c. same-room (returns-2 c) (c.requires))
    returns-2)
