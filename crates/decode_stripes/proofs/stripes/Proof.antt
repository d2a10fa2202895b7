-- `decode_stripes::stripes` meets its contract: what it calls, with parts of arrays.
-- Assumes nothing.
use Rattle.lists.proofs.Alls.{all-at}
use Rattle.lists.proofs.Boards.{below_all}
use Rattle.sizes.proofs.Legal.{Legal, legal-facts}
use Rattle.decode_stripe.proofs.Made.{part-long}
use Rattle.decode_setup.proofs.Placed.{f-few, g-few}
use Rattle.setup_rows.proofs.Near.{near_again}
use Rattle.stripes_cut.proofs.Made.{tables-lent, targets-are}
use mathlib.Core.Path.{◌≡◌, refl, ◌∙◌}
use Prim.Native.Nat.{◌<◌, ◌+◌}
use native.Mathlib.Omega.{arith}
use lib.ListN.{length, get_or, length-append}
use borrow.Author.Rules.{rules}
use Rattle.decode_stripes.proofs.stripes.Statement.{statement}
use Rattle.decode_stripes.proofs.stripes.Tie as tie

-- places in the code
abbrev start-of-struct_known-1 : tie.After-struct_known-1 → tie.Start
start-of-struct_known-1 c = c.before.before.before.before.before.before.before

abbrev start-of-struct_known-2-1 : tie.After-struct_known-2-1 → tie.Start
start-of-struct_known-2-1 c = start-of-struct_known-1 c.before

abbrev start-of-struct_known-3-1 : tie.After-struct_known-3-1 → tie.Start
start-of-struct_known-3-1 c = start-of-struct_known-2-1 c.before

abbrev start-of-shared_slice_known-6-1 : tie.After-shared_slice_known-6-1 → tie.Start
start-of-shared_slice_known-6-1 c = start-of-struct_known-3-1 c.before

abbrev start-of-shared_slice_known-6-1-unread : tie.After-shared_slice_known-6-1-unread → tie.Start
start-of-shared_slice_known-6-1-unread c = start-of-struct_known-3-1 c.before

abbrev start-of-targets-1 : tie.After-targets-1 → tie.Start
start-of-targets-1 c = start-of-shared_slice_known-6-1 c.before

abbrev start-of-boards_from : tie.After-boards_from → tie.Start
start-of-boards_from c = start-of-targets-1 c.before

abbrev start-of-targets-2-1 : tie.After-targets-2-1 → tie.Start
start-of-targets-2-1 c = start-of-boards_from c.before

abbrev start-of-stripes_by-arg-1 : tie.After-stripes_by-arg-1 → tie.Start
start-of-stripes_by-arg-1 c = start-of-targets-2-1 c.before

abbrev start-of-stripes_by-arg-2-1 : tie.After-stripes_by-arg-2-1 → tie.Start
start-of-stripes_by-arg-2-1 c = start-of-stripes_by-arg-1 c.before

abbrev start-of-stripes_by-arg-3-1 : tie.After-stripes_by-arg-3-1 → tie.Start
start-of-stripes_by-arg-3-1 c = start-of-stripes_by-arg-2-1 c.before

abbrev start-of-stripes_by-arg-4-1 : tie.After-stripes_by-arg-4-1 → tie.Start
start-of-stripes_by-arg-4-1 c = start-of-stripes_by-arg-3-1 c.before

abbrev start-of-stripes_by-arg-5-1 : tie.After-stripes_by-arg-5-1 → tie.Start
start-of-stripes_by-arg-5-1 c = start-of-stripes_by-arg-4-1 c.before

abbrev start-of-stripes_by-arg-7-1 : tie.After-stripes_by-arg-7-1 → tie.Start
start-of-stripes_by-arg-7-1 c = start-of-stripes_by-arg-5-1 c.before.before

-- places in the code
abbrev st-struct-known : tie.After-struct_known-1 → tie.Start
st-struct-known c = c.before.before.before.before.before.before.before

abbrev st-struct-known2 : tie.After-struct_known-2-1 → tie.Start
st-struct-known2 c = st-struct-known c.before

-- the sizes are legal
facts : (c : tie.Start) → Legal c.args.sizes
facts c = legal-facts _ c.requires.0.sized

some-board : (c : tie.Start) → 0 < length c.args.boards.now
some-board c = omega (arith, c.requires.0.counted, (facts c).some_read)

first-known : (c : tie.Start) → get_or c.args.boards.now 0 0 < c.args.sizes.n
first-known c = all-at (λ i. i < c.args.sizes.n) 0 c.args.boards.now (below_all c.args.sizes.n c.args.boards.now c.requires.0.known) 0 (some-board c)

-- the boards at which values are taken
near-made : (c : tie.After-boards_from) → length c.boards_from.new.out ≡ c.args.sizes.d + c.args.sizes.r
near-made c = c.boards_from.auto.out ∙ part-long _ _ (omega (arith, facts (start-of-boards_from c)))

add-w : tie.Need-overflow_add-w
add-w c = omega (arith, facts (start-of-struct_known-1 c))

sub-f-end : tie.Need-overflow_sub-f_end
sub-f-end c = omega (arith, facts (start-of-struct_known-2-1 c))

mul-f-end : tie.Need-overflow_mul-f_end
mul-f-end c = omega (arith, facts (start-of-struct_known-2-1 c))

mul-f-end-2 : tie.Need-overflow_mul-f_end-2
mul-f-end-2 c = omega (arith, f-few _ (facts (start-of-struct_known-2-1 c)))

sub-g-end : tie.Need-overflow_sub-g_end
sub-g-end c = omega (arith, facts (start-of-struct_known-3-1 c))

mul-g-end : tie.Need-overflow_mul-g_end
mul-g-end c = omega (arith, facts (start-of-struct_known-3-1 c))

mul-g-end-2 : tie.Need-overflow_mul-g_end-2
mul-g-end-2 c = omega (arith, g-few _ (facts (start-of-struct_known-3-1 c)))

add-g-end : tie.Need-overflow_add-g_end
add-g-end c = omega (arith, g-few _ (facts (start-of-struct_known-3-1 c)))

mul-unit-end : tie.Need-overflow_mul-unit_end
mul-unit-end c = omega (arith, facts (start-of-struct_known-3-1 c))

add-unit-end : tie.Need-overflow_add-unit_end
add-unit-end c = omega (arith, facts (start-of-struct_known-3-1 c))

mul-seed-end : tie.Need-overflow_mul-seed_end
mul-seed-end c = omega (arith, facts (start-of-struct_known-3-1 c))

add-seed-end : tie.Need-overflow_add-seed_end
add-seed-end c = omega (arith, facts (start-of-struct_known-3-1 c))

sub-top-end : tie.Need-overflow_sub-top_end
sub-top-end c = omega (arith, facts (start-of-struct_known-3-1 c))

mul-top-end : tie.Need-overflow_mul-top_end
mul-top-end c = omega (arith, facts (start-of-struct_known-3-1 c))

add-top-end : tie.Need-overflow_add-top_end
add-top-end c = omega (arith, facts (start-of-struct_known-3-1 c))

shared-slice-read-boards-from : tie.Need-bounds-boards-0
shared-slice-read-boards-from c = some-board (start-of-shared_slice_known-6-1-unread c)

part-targets-end : tie.Need-slice_bounds-targets-end
part-targets-end c = omega (arith, facts (start-of-shared_slice_known-6-1 c))

boards-from-requires : tie.Need-boards_from-requires
boards-from-requires c κs = (first-known (start-of-targets-1 c), (facts (start-of-targets-1 c)).few)

part-stripes-by-end : tie.Need-slice_bounds-stripes_by-end
part-stripes-by-end c = simp length-append (omega (arith, facts (start-of-targets-2-1 c), near-made c.before))

part-stripes-by-end-2 : tie.Need-slice_bounds-stripes_by-end-2
part-stripes-by-end-2 c = omega (arith, f-few _ (facts (start-of-stripes_by-arg-1 c)), c.requires.4.long)

part-stripes-by-end-3 : tie.Need-slice_bounds-stripes_by-end-3
part-stripes-by-end-3 c = omega (arith, g-few _ (facts (start-of-stripes_by-arg-2-1 c)), c.requires.4.long)

part-stripes-by-end-4 : tie.Need-slice_bounds-stripes_by-end-4
part-stripes-by-end-4 c = omega (arith, facts (start-of-stripes_by-arg-3-1 c), c.requires.4.long)

part-stripes-by-end-5 : tie.Need-slice_bounds-stripes_by-end-5
part-stripes-by-end-5 c = omega (arith, facts (start-of-stripes_by-arg-4-1 c), c.requires.4.long)

part-stripes-by-start-6 : tie.Need-slice_bounds-stripes_by-start-6
part-stripes-by-start-6 c = omega (arith, c.requires)

part-stripes-by-end-6 : tie.Need-slice_bounds-stripes_by-end-6
part-stripes-by-end-6 c = omega (arith, facts (start-of-stripes_by-arg-5-1 c), c.requires.4.long)

stripes-by-requires : tie.Need-stripes_by-requires
stripes-by-requires c κs =
    let a = c.args in
    let p = c.requires in
    let f = facts (start-of-stripes_by-arg-7-1 c) in
    let e = near_again a.sizes f (get_or a.boards.now 0 0) _ c.boards_from.new.out refl c.boards_from.ensures in
    (p.0, targets-are a.sizes f a.boards.now _ (first-known (start-of-stripes_by-arg-7-1 c)) e, p.1, p.2, p.3, tables-lent a.sizes a.points.now a.boards.now a.tables.now _ e p.4, p.5, p.6)

same_length : tie.Need-shape_of-out
same_length c = c.out-1.given

pub stripes_spec : {M : Type 1} → statement M
stripes_spec =
    tie.close
    (tie.spec
    add-w
    sub-f-end
    mul-f-end
    mul-f-end-2
    sub-g-end
    mul-g-end
    mul-g-end-2
    add-g-end
    mul-unit-end
    add-unit-end
    mul-seed-end
    add-seed-end
    sub-top-end
    mul-top-end
    add-top-end
    shared-slice-read-boards-from
    (λ c. search rules)
    (λ c. search rules)
    part-targets-end
    boards-from-requires
    (λ c. search rules)
    (λ c. search rules)
    part-stripes-by-end
    (λ c. search rules)
    (λ c. search rules)
    part-stripes-by-end-2
    (λ c. search rules)
    (λ c. search rules)
    part-stripes-by-end-3
    (λ c. search rules)
    (λ c. search rules)
    part-stripes-by-end-4
    (λ c. search rules)
    (λ c. search rules)
    part-stripes-by-end-5
    (λ c. search rules)
    part-stripes-by-start-6
    part-stripes-by-end-6
    stripes-by-requires
    same_length
    (λ c. search rules))
