-- `text_lines::in_order` meets its contract. The loop's invariant: each point passed is its place.
-- Assumes nothing.
use Rattle.text_lines.proofs.Orders.{Passed}
use Rattle.text_lines.proofs.in_order.Given as goal

abbrev pub invariant-loop-i : goal.invariant-loop-i
invariant-loop-i l = Passed l.points l.i
