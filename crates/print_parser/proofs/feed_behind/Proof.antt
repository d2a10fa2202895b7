-- `print_parser::feed_behind` meets its contract, by the reader's place.
-- Assumes nothing.
use mathlib.Core.Path.{sym, ap, ◌∙◌}
use Rattle.number_lines.proofs.Picks.{if-eq, if-ne}
use Rattle.printer.specs.Steps.{points_moved}
use borrow.Author.Rules.{rules}
use Rattle.print_parser.proofs.feed_behind.Statement.{statement}
use Rattle.print_parser.proofs.feed_behind.Tie as tie

-- where the call began
abbrev st : tie.After-struct_known-1 → tie.Start
st c = c.before.before

returns : tie.Need-returns-then-points-eq2
returns c = let at = c.before in c.counted.ensures ∙ sym (if-eq (st at.before).args.p.points.part 2 _ _ at.if-points-eq2.true)

returns-2 : tie.Need-returns
returns-2 c =
    let at = c.before in
    let p = (st at.before).args.p in
    ap (points_moved p) c.feed-q.ensures ∙ sym (if-ne p.points.part 2 _ _ at.if-points-eq2.false)

pub feed_behind_spec : {M : Type 1} → statement M
feed_behind_spec = tie.close (tie.spec (λ c κs. search rules) returns (λ c κs. search rules) returns-2)
