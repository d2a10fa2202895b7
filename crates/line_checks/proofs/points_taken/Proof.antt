-- `line_checks::points_taken` meets its contract: the tests in their order; that each point is a byte holds of all.
-- Assumes nothing.
use Prim.Native.Nat.{◌<◌}
use mathlib.Core.Path.{sym, ◌∙◌}
use native.Mathlib.Omega.{arith}
use borrow.Author.Rules.{rules}
use Rattle.lists.specs.Lists.{Bytes}
use Rattle.lists.proofs.Alls.{all_of}
use Rattle.sizes.proofs.Legal.{legal-facts}
use Rattle.line_checks.proofs.Points.{not-32, repeated, by-rest}
use Rattle.line_checks.proofs.points_taken.Statement.{statement}
use Rattle.line_checks.proofs.points_taken.Tie as tie

-- the places
abbrev known : tie.Else-points-ne-MAX_BOARDS → tie.After-shared_slice_known-1
known c = c.before

abbrev at_long : tie.After-points_differ → tie.Else-points-ne-MAX_BOARDS
at_long c = c.before.before

abbrev st : tie.After-points_differ → tie.Start
st c = (known (at_long c)).before

-- bytes, by their type
bytes : (c : tie.After-shared_slice_known-1) → Bytes c.before.args.points.now
bytes c = all_of (λ x. x < 256) 0 c.before.args.points.now (λ i l. omega (arith, c.shared_slice_known-1.given i))

wrong-length : tie.Need-returns-then-points-ne-MAX_BOARDS
wrong-length c = not-32 _ _ c.if-points-ne-MAX_BOARDS.true

part_end : tie.Need-slice_bounds-points_differ-end
part_end c = omega (arith, (legal-facts _ (known c).before.requires).few, c.if-points-ne-MAX_BOARDS.false)

decided-by-rest : tie.Need-returns-then-points_differ
decided-by-rest c =
    let k = c.before.before in
    c.zero_from.ensures
    ∙ by-rest (st k).args.sizes (st k).args.points.now (at_long k).if-points-ne-MAX_BOARDS.false (bytes (known (at_long k))) (sym k.points_differ.ensures ∙ c.before.if-points_differ.true)

point-repeated : tie.Need-returns
point-repeated c =
    let k = c.before in
    repeated (st k).args.sizes (st k).args.points.now (at_long k).if-points-ne-MAX_BOARDS.false (bytes (known (at_long k))) (sym k.points_differ.ensures ∙ c.if-points_differ.false)

pub points_taken_spec : {M : Type 1} → statement M
points_taken_spec =
    tie.close
    (tie.spec
    wrong-length
    (λ c. search rules)
    (λ c. search rules)
    part_end
    (λ c κs. search rules)
    (λ c κs. search rules)
    decided-by-rest
    point-repeated)
