-- `decode_file::pairs_meet` meets its contract: what it calls, with parts of arrays.
-- Assumes nothing.
use Rattle.sizes.proofs.Legal.{Legal, legal-facts}
use Rattle.decode_stripe.proofs.Made.{part-long}
use Rattle.decode_setup.proofs.Placed.{f-few, g-few}
use Rattle.stripes_cut.proofs.Made.{tables-lent}
use mathlib.Core.Path.{refl}
use native.Mathlib.Omega.{arith}
use borrow.Author.Rules.{rules}
use Rattle.decode_file.proofs.pairs_meet.Statement.{statement}
use Rattle.decode_file.proofs.pairs_meet.Tie as tie

-- places in the code
abbrev st-struct-known : tie.After-struct_known-1 → tie.Start
st-struct-known c = c.before.before.before.before.before.before

abbrev st-struct-known2 : tie.After-struct_known-2-1 → tie.Start
st-struct-known2 c = st-struct-known c.before

abbrev st-struct-known3 : tie.After-struct_known-3-1 → tie.Start
st-struct-known3 c = st-struct-known2 c.before

abbrev struct-known3-at-stripes-meet-arg2 : tie.After-stripes_meet-arg-2-1 → tie.After-struct_known-3-1
struct-known3-at-stripes-meet-arg2 c = c.before.before

abbrev st-gs : tie.After-gs-1 → tie.Start
st-gs c = st-struct-known3 (struct-known3-at-stripes-meet-arg2 c.before.before)

-- the sizes are legal
facts : (c : tie.Start) → Legal c.args.sizes
facts c = legal-facts _ c.requires.0.sized

add-w : tie.Need-overflow_add-w
add-w c = omega (arith, facts (st-struct-known c))

sub-f-end : tie.Need-overflow_sub-f_end
sub-f-end c = omega (arith, facts (st-struct-known2 c))

mul-f-end : tie.Need-overflow_mul-f_end
mul-f-end c = omega (arith, facts (st-struct-known2 c))

mul-f-end-2 : tie.Need-overflow_mul-f_end-2
mul-f-end-2 c = omega (arith, f-few _ (facts (st-struct-known2 c)))

sub-g-end : tie.Need-overflow_sub-g_end
sub-g-end c = omega (arith, facts (st-struct-known3 c))

mul-g-end : tie.Need-overflow_mul-g_end
mul-g-end c = omega (arith, facts (st-struct-known3 c))

mul-g-end-2 : tie.Need-overflow_mul-g_end-2
mul-g-end-2 c = omega (arith, g-few _ (facts (st-struct-known3 c)))

add-g-end : tie.Need-overflow_add-g_end
add-g-end c = omega (arith, g-few _ (facts (st-struct-known3 c)))

mul-kept : tie.Need-overflow_mul-kept
mul-kept c = omega (arith, facts (st-struct-known3 c))

part-stripes-meet-end : tie.Need-slice_bounds-stripes_meet-end
part-stripes-meet-end c = omega (arith, f-few _ (facts (st-struct-known3 c)), (st-struct-known3 c).requires.4.long)

part-stripes-meet-end-2 : tie.Need-slice_bounds-stripes_meet-end-2
part-stripes-meet-end-2 c = omega (arith, g-few _ (facts (st-struct-known3 c.before)), (st-struct-known3 c.before).requires.4.long)

part-fs-end : tie.Need-slice_bounds-fs-end
part-fs-end c = omega (arith, facts (st-struct-known3 (struct-known3-at-stripes-meet-arg2 c)))

part-gs-end : tie.Need-slice_bounds-gs-end
part-gs-end c = omega (arith, facts (st-struct-known3 (struct-known3-at-stripes-meet-arg2 c.before)))

stripes-meet-requires : tie.Need-stripes_meet-requires
stripes-meet-requires c κs =
    let g = st-gs c in
    let a = g.args in
    let p = g.requires in
    let f = facts g in
    let t = tables-lent a.sizes a.points.now a.boards.now a.tables.now _ refl p.4 in (
      p.0.sized,
      p.0.distinct,
      p.0.counted,
      p.0.known,
      p.1,
      p.2,
      p.3,
      t.f-factors,
      t.g-factors,
      part-long _ _ (omega (arith, f)),
      part-long _ _ (omega (arith, f)),
    )

pub pairs_meet_spec : {M : Type 1} → statement M
pairs_meet_spec =
    tie.close
    (tie.spec
    add-w
    sub-f-end
    mul-f-end
    mul-f-end-2
    sub-g-end
    mul-g-end
    mul-g-end-2
    add-g-end
    mul-kept
    (λ c. search rules)
    (λ c. search rules)
    part-stripes-meet-end
    (λ c. search rules)
    (λ c. search rules)
    part-stripes-meet-end-2
    (λ c. search rules)
    (λ c. search rules)
    part-fs-end
    (λ c. search rules)
    (λ c. search rules)
    part-gs-end
    stripes-meet-requires
    (λ c. search rules))
