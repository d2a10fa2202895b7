-- `setup_tops::tops_at` meets its contract: the callees' contracts, put together.
-- Assumes nothing.
use Rattle.lists.specs.Lists.{put}
use Rattle.sizes.proofs.Legal.{Legal, legal-facts}
use Rattle.mbcr.specs.Share.{points}
use Rattle.decode_laws.specs.Steps.{top_rows}
use Rattle.setup_rows.proofs.Near.{first-known, few-again, few-long, few-below}
use mathlib.Core.Path.{◌≡◌, refl, ap, ◌∙◌}
use mathlib.Core.List.{List}
use Prim.Native.Nat.{ℕ, ◌+◌, ◌<◌}
use native.Mathlib.Nat.{sub-zero}
use native.Mathlib.Omega.{arith}
use lib.ListN.{length, get_or, length-append}
use borrow.Rule.Slice.PartMut.{mid_len}
use borrow.Author.Rules.{rules}
use Rattle.setup_tops.proofs.tops_at.Statement.{statement}
use Rattle.setup_tops.proofs.tops_at.Tie as tie

-- the sizes are legal
facts : (c : tie.Start) → Legal c.args.sizes
facts c = legal-facts _ c.requires.0

first : (c : tie.Start) → get_or c.args.boards.now 0 0 < c.args.sizes.n
first c = first-known c.args.sizes c.args.boards.now (facts c) c.requires.1 c.requires.2

-- the boards
near-made : (c : tie.After-boards_from) → length c.boards_from.new.out ≡ c.args.sizes.d + c.args.sizes.r
near-made c =
    let f = facts c.before.before.before.before.before.before.before.before in
    c.boards_from.auto.out ∙ (mid_len {X = ℕ} 0 _ _ (omega (arith, f.enough, f.few)) ∙ sub-zero _)

add-w : tie.Need-overflow_add-w
add-w c = let f = facts c.before.before.before.before.before in omega (arith, f.enough, f.few)

shared-slice-read-boards-from : tie.Need-bounds-boards-0
shared-slice-read-boards-from c =
    omega (arith, c.requires.1, (facts c.before.before.before.before.before.before).some_read)

part-targets-end : tie.Need-slice_bounds-targets-end
part-targets-end c = let f = facts c.before.before.before.before.before.before in omega (arith, f.enough, f.few)

boards-from-requires : tie.Need-boards_from-requires
boards-from-requires c κs = (first c.before.before.before.before.before.before.before, (facts c.before.before.before.before.before.before.before).few)

part-top-table-end : tie.Need-slice_bounds-top_table-end
part-top-table-end c =
    let f = facts c.before.before.before.before.before.before.before.before.before in
    simp length-append (omega (arith, f.enough, f.few, near-made c.before))

top-table-requires : tie.Need-top_table-requires
top-table-requires c κs =
    let z = c.args.sizes in
    let b = get_or c.args.boards.now 0 0 in
    let f = facts c.before.before.before.before.before.before.before.before.before.before.before in
    let long = few-long z f b _ _ refl c.boards_from.ensures z.d (omega arith) in (
      c.requires.3,
      c.requires.4,
      few-below z f b _ _ refl c.boards_from.ensures (first c.before.before.before.before.before.before.before.before.before.before.before) z.d (omega arith),
      omega (arith, long, f.enough, f.few),
      omega (arith, long, f.read-helpers),
      omega (arith, long, f.enough, f.few, c.requires.5),
    )

returns : tie.Need-returns
returns c =
    let z = c.args.sizes in
    c.top_table.ensures
    ∙ ap (λ (l : List ℕ). put c.args.out.now c.args.at (top_rows z.k (points c.args.points.now l)))
    (few-again z (facts c.before.before.before.before.before.before.before.before.before.before.before.before.before.before) (get_or c.args.boards.now 0 0) _ _ refl c.boards_from.ensures z.d (omega arith))

pub tops_at_spec : {M : Type 1} → statement M
tops_at_spec =
    tie.close
    (tie.spec
    add-w
    shared-slice-read-boards-from
    (λ c. search rules)
    (λ c. search rules)
    part-targets-end
    boards-from-requires
    (λ c. search rules)
    (λ c. search rules)
    part-top-table-end
    top-table-requires
    (λ c. search rules)
    returns)
