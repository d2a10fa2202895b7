-- `store_work::fill_tables` meets its contract.
-- Assumes nothing.
use mathlib.Core.Path.{◌≡◌, sym}
use lib.ListN.{length}
use borrow.Author.Rules.{rules}
use Rattle.store_work.proofs.fill_tables.Statement.{statement}
use Rattle.store_work.proofs.fill_tables.Tie as tie

-- where the call began
abbrev st : tie.After-points-2-1 → tie.Start
st c = c.before.before.before.before.before

-- there are 32 points
points-long : (g : tie.Start) → length g.args.kept.points ≡ 32
points-long g = search rules

pub fill_tables_spec : {M : Type 1} → statement M
fill_tables_spec =
    tie.close
    (tie.spec
    (λ c. sym (points-long (st c)))
    (λ c κs. let g = st c.before in (g.requires.0, points-long g, g.requires.1))
    (λ c. search rules)
    (λ c. c.before.before.fill_tables.ensures))
