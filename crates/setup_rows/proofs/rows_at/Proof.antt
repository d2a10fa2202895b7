-- `setup_rows::rows_at` meets its contract: the callees' contracts, put together.
-- Assumes nothing.
use Rattle.lists.specs.Tests.{below}
use Rattle.mbcr.specs.Share.{points}
use Rattle.mbcr.proofs.Points.{length-points}
use Rattle.decode_laws.specs.Steps.{seed_rows}
use Rattle.decode_laws.proofs.Loops.{back-part}
use native.Mathlib.Nat.{sub-zero}
use borrow.Rule.Slice.PartMut.{mid_len}
use mathlib.Core.Path.{◌≡◌, ap, ◌∙◌}
use Prim.Native.Nat.{ℕ}
use native.Mathlib.Omega.{arith}
use lib.ListN.{length, length-take, length-append}
use borrow.Author.Rules.{rules}
use Rattle.setup_rows.proofs.rows_at.Statement.{statement}
use Rattle.setup_rows.proofs.rows_at.Tie as tie

-- the points
made : (c : tie.After-points_of) → c.points_of.new.out ≡ points c.args.points.now c.args.boards.now
made c = c.points_of.ensures

made-long : (c : tie.After-points_of) → length c.points_of.new.out ≡ length c.args.boards.now
made-long c = ap length (made c) ∙ length-points c.args.points.now c.args.boards.now

points-of-requires : tie.Need-points_of-requires
points-of-requires c κs =
    (ap (λ (m : ℕ). below m c.args.boards.now) c.requires.1 ∙ c.requires.2, mid_len {X = ℕ} 0 _ _ (omega (arith, c.requires.3)) ∙ sub-zero _)

part-seed-rows-end : tie.Need-slice_bounds-seed_rows-end
part-seed-rows-end c = simp length-append (omega (arith, made-long c.before, c.requires.3))

seed-rows-requires : tie.Need-seed_rows-requires
seed-rows-requires c κs =
    (c.requires.0, simp length-take (omega (arith, c.requires.3)), c.requires.4, c.requires.5)

returns : tie.Need-returns
returns c =
    c.seed_rows.ensures
    ∙ ap (seed_rows c.args.d) (back-part (length c.args.boards.now) _ _ (made-long c.before.before.before.before.before.before) ∙ made c.before.before.before.before.before.before)

pub rows_at_spec : {M : Type 1} → statement M
rows_at_spec =
    tie.close
    (tie.spec
    (λ c. search rules)
    (λ c. search rules)
    (λ c. search rules)
    points-of-requires
    (λ c. search rules)
    (λ c. search rules)
    part-seed-rows-end
    seed-rows-requires
    (λ c. search rules)
    returns)
