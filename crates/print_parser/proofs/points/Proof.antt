-- `print_parser::points` meets its contract, by the test.
-- Assumes nothing.
use mathlib.Core.Path.{sym, ap, ◌∙◌}
use Rattle.mbcr.specs.Share.{standard}
use Rattle.number_lines.proofs.Picks.{yes, no}
use borrow.Author.Rules.{rules}
use Rattle.print_parser.proofs.points.Statement.{statement}
use Rattle.print_parser.proofs.points.Tie as tie

returns : tie.Need-returns-then-p
returns c = let at = c.before.before in sym (yes at.before.args.p.asked _ _ at.if-p.true)

returns-2 : tie.Need-returns
returns-2 c =
    let at = c.before in
    let k = at.before in
    c.standard_points.ensures ∙ ap standard at.sizes.ensures ∙ sym (no k.before.args.p.asked _ _ k.if-p.false)

pub points_spec : {M : Type 1} → statement M
points_spec = tie.close (tie.spec returns (λ c κs. search rules) (λ c κs. search rules) returns-2)
