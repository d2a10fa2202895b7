-- `point_array::points_array` meets its contract: 32 points as they are, and otherwise 32 times 00.
-- Assumes nothing.
use mathlib.Core.Path.{◌∙◌}
use borrow.Author.Rules.{rules}
use Rattle.point_array.proofs.Points.{array-is, array-not}
use Rattle.point_array.proofs.points_array.Statement.{statement}
use Rattle.point_array.proofs.points_array.Tie as tie

-- the place
abbrev start : tie.Then-points-eq32 → tie.Start
start c = c.before.before

pub points_array_spec : {M : Type 1} → statement M
points_array_spec =
    tie.close
    (tie.spec
    (λ c κs. search rules)
    (λ c. search rules)
    (λ c κs. search rules)
    (λ c. let p = c.before in let x = p.before.before in
    p.put_row.ensures ∙ array-is (start x.before).args.points.now _ x.before.if-points-eq32.true x.row_at-row.ensures)
    (λ c. array-not c.before.before.args.points.now c.if-points-eq32.false))
