-- `setup_rows::unit_tables` meets its contract: the callees' contracts, put together.
-- Assumes nothing.
use Rattle.sizes.proofs.Legal.{Legal, legal-facts}
use Rattle.mbcr.proofs.Points.{length-neighbours}
use Rattle.setup_rows.proofs.Near.{first-known, near_again, near-below}
use Rattle.setup_rows.proofs.Rows.{units-put}
use mathlib.Core.Path.{◌≡◌, refl, ◌∙◌}
use Prim.Native.Nat.{ℕ, ◌+◌, ◌<◌}
use native.Mathlib.Nat.{sub-zero}
use native.Mathlib.Omega.{arith}
use lib.ListN.{length, get_or, length-take, length-append}
use borrow.Rule.Slice.PartMut.{mid_len}
use borrow.Author.Rules.{rules}
use Rattle.setup_rows.proofs.unit_tables.Statement.{statement}
use Rattle.setup_rows.proofs.unit_tables.Tie as tie

-- the sizes are legal
facts : (c : tie.Start) → Legal c.args.sizes
facts c = legal-facts _ c.requires.0

first : (c : tie.Start) → get_or c.args.boards.now 0 0 < c.args.sizes.n
first c = first-known c.args.sizes c.args.boards.now (facts c) c.requires.1 c.requires.2

-- the boards
near-made : (c : tie.After-boards_from) → length c.boards_from.new.out ≡ c.args.sizes.d + c.args.sizes.r
near-made c =
    let f = facts c.before.before.before.before.before.before.before.before in
    c.boards_from.auto.out ∙ (mid_len {X = ℕ} 0 _ _ (omega (arith, f.enough, f.few)) ∙ sub-zero _)

add-w : tie.Need-overflow_add-w
add-w c = let f = facts c.before.before.before.before.before in omega (arith, f.enough, f.few)

shared-slice-read-boards-from : tie.Need-bounds-boards-0
shared-slice-read-boards-from c =
    omega (arith, c.requires.1, (facts c.before.before.before.before.before.before).some_read)

part-targets-end : tie.Need-slice_bounds-targets-end
part-targets-end c = let f = facts c.before.before.before.before.before.before in omega (arith, f.enough, f.few)

boards-from-requires : tie.Need-boards_from-requires
boards-from-requires c κs = (first c.before.before.before.before.before.before.before, (facts c.before.before.before.before.before.before.before).few)

part-row-tables-end : tie.Need-slice_bounds-row_tables-end
part-row-tables-end c =
    let f = facts c.before.before.before.before.before.before.before.before.before in
    simp length-append (omega (arith, f.enough, f.few, near-made c.before))

row-tables-requires : tie.Need-row_tables-requires
row-tables-requires c κs =
    let f = facts c.before.before.before.before.before.before.before.before.before.before.before in (
      c.requires.3,
      c.requires.4,
      near-below c.args.sizes f (get_or c.args.boards.now 0 0) _ _ refl c.boards_from.ensures (first c.before.before.before.before.before.before.before.before.before.before.before),
      simp length-take (omega (arith, f.enough, f.few)),
      omega (arith, f.enough, f.few),
      c.requires.5,
    )

returns : tie.Need-returns
returns c =
    let z = c.args.sizes in
    let b = get_or c.args.boards.now 0 0 in
    units-put c.args.at (z.d + z.r) c.args.points.now _ _ c.args.out.now _
    (near_again z (facts c.before.before.before.before.before.before.before.before.before.before.before.before.before.before) b _ _ refl c.boards_from.ensures) (length-neighbours z b (z.d + z.r)) c.row_tables.ensures

pub unit_tables_spec : {M : Type 1} → statement M
unit_tables_spec =
    tie.close
    (tie.spec
    add-w
    shared-slice-read-boards-from
    (λ c. search rules)
    (λ c. search rules)
    part-targets-end
    boards-from-requires
    (λ c. search rules)
    (λ c. search rules)
    part-row-tables-end
    row-tables-requires
    (λ c. search rules)
    returns)
