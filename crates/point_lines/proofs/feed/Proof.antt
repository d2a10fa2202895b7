-- `point_lines::feed` meets its contract, case by case.
-- Assumes nothing.
use mathlib.Core.Path.{◌≡◌, sym, ◌∙◌}
use Rattle.number_lines.proofs.Picks.{if-eq, if-ne, if-lt, if-le}
use lib.Dec.{ltb}
use Rattle.lists.specs.Tests.{pick}
use Rattle.point_lines.specs.Steps.{points_name, fed_name, fed_high, fed}
use borrow.Author.Rules.{rules}
use Rattle.point_lines.proofs.feed.Statement.{statement}
use Rattle.point_lines.proofs.feed.Tie as tie

returns : tie.Need-returns-then-r-eq1
unfolding fed
returns c = c.feed_low.ensures ∙ sym (if-eq c.args.r.part 1 _ _ c.if-r-eq1.true)

returns-2 : tie.Need-returns-then-r-ne0
unfolding fed
returns-2 c =
    let part = c.args.r.part in
    sym (if-ne part 1 _ _ c.if-r-eq1.false ∙ if-ne part 0 _ _ c.if-r-ne0.true)

here : (c : tie.After-struct_known-3-1) → let a = c.args in fed a.n a.r a.b
    ≡ pick (ltb a.r.at 7) (fed_name points_name a.r a.b) (fed_high a.n a.r a.b)
unfolding fed
here c =
    let part = c.args.r.part in
    if-ne part 1 _ _ c.if-r-eq1.false ∙ if-eq part 0 _ _ c.if-r-ne0.false

returns-3 : tie.Need-returns-then-r-lt7
returns-3 c =
    c.feed_name.ensures ∙ sym (here c.before.before.before.before ∙ if-lt c.args.r.at 7 _ _ c.if-r-lt7.true)

returns-4 : tie.Need-returns
returns-4 c = c.feed_high.ensures ∙ sym (here c.before.before ∙ if-le c.args.r.at 7 _ _ c.if-r-lt7.false)

pub feed_spec : {M : Type 1} → statement M
feed_spec =
    tie.close
    (tie.spec
    (λ c κs. search rules)
    returns
    returns-2
    (λ c κs. search rules)
    returns-3
    (λ c κs. search rules)
    returns-4)
