-- `decode_stripes::stripes_by` meets its contract: what it calls, with parts of arrays.
-- Assumes nothing.
use Rattle.lists.specs.Tests.{pick}
use Rattle.sizes.specs.Sizing.{B}
use Rattle.sizes.proofs.Legal.{Legal, legal-facts, B-most}
use Rattle.decode_stripe.proofs.Made.{part-long}
use Rattle.stripes_cut.proofs.Made.{values-few, tops-few}
use mathlib.Core.Path.{◌≡◌, refl, ap, ◌∙◌}
use Prim.Native.Nat.{◌≤◌}
use native.Mathlib.Omega.{arith}
use borrow.Author.Rules.{rules}
use Rattle.decode_stripes.proofs.stripes_by.Statement.{statement}
use Rattle.decode_stripes.proofs.stripes_by.Tie as tie

-- places in the code
abbrev st-stripe-len : tie.After-stripe_len-b → tie.Start
st-stripe-len c = c.before.before.before.before.before.before.before.before.before.before.before.before.before

abbrev stripe-len-at-vg : tie.After-vg-1 → tie.After-stripe_len-b
stripe-len-at-vg c = c.before.before.before.before

abbrev st-vg : tie.After-vg-1 → tie.Start
st-vg c = st-stripe-len (stripe-len-at-vg c)

abbrev stripe-len-at-columns : tie.After-columns-1 → tie.After-stripe_len-b
stripe-len-at-columns c = stripe-len-at-vg c.before.before.before

abbrev stripe-len-at-stripes-in-arg : tie.After-stripes_in-arg-1 → tie.After-stripe_len-b
stripe-len-at-stripes-in-arg c = stripe-len-at-columns c.before.before

abbrev st-stripes-in-arg : tie.After-stripes_in-arg-1 → tie.Start
st-stripes-in-arg c = st-stripe-len (stripe-len-at-stripes-in-arg c)

-- the sizes are legal
facts : (c : tie.Start) → Legal c.args.sizes
facts c = legal-facts _ c.requires.0.sized

-- the length of a stripe
whole : (c : tie.After-stripe_len-b) → c.stripe_len-b.result ≡ B (st-stripe-len c).args.sizes
whole c = c.stripe_len-b.ensures ∙ ap (λ b. pick b (B (st-stripe-len c).args.sizes) 0) (st-stripe-len c).requires.0.sized

most : (c : tie.After-stripe_len-b) → c.stripe_len-b.result ≤ 992
most c = omega (arith, whole c, B-most _ (facts (st-stripe-len c)))

mul-kept : tie.Need-overflow_mul-kept
mul-kept c = omega (arith, facts (st-stripe-len c))

mul-values : tie.Need-overflow_mul-values
mul-values c = omega (arith, values-few _ (facts (st-stripe-len c)))

sub-tops : tie.Need-overflow_sub-tops
sub-tops c = omega (arith, facts (st-stripe-len c))

mul-tops : tie.Need-overflow_mul-tops
mul-tops c = omega (arith, tops-few _ (facts (st-stripe-len c)))

part-fs-end : tie.Need-slice_bounds-fs-end
part-fs-end c = omega (arith, facts (st-stripe-len c))

part-gs-end : tie.Need-slice_bounds-gs-end
part-gs-end c = omega (arith, facts (st-stripe-len c.before))

part-vf-end : tie.Need-slice_bounds-vf-end
part-vf-end c = omega (arith, values-few _ (facts (st-stripe-len c.before.before)))

part-tp-end : tie.Need-slice_bounds-tp-end
part-tp-end c = omega (arith, tops-few _ (facts (st-vg c)))

part-rows-end : tie.Need-slice_bounds-rows-end
part-rows-end c = omega (arith, facts (st-vg c.before))

part-columns-end : tie.Need-slice_bounds-columns-end
part-columns-end c = omega (arith, facts (st-vg c.before.before))

part-u-end : tie.Need-slice_bounds-u-end
part-u-end c = most (stripe-len-at-columns c)

stripes-in-requires : tie.Need-stripes_in-requires
stripes-in-requires c κs =
    let g = st-stripes-in-arg c in
    let p = g.requires in
    let f = facts g in
    let z = g.args.sizes in (
      p.0,
      p.1,
      p.2,
      p.3,
      p.4,
      p.5,
      record {
        f-rows = part-long _ _ (omega (arith, f));
        g-rows = part-long _ _ (omega (arith, f));
        f-values = part-long _ _ (values-few z f);
        g-values = refl;
        g-tops = part-long _ _ (tops-few z f);
        all-rows = part-long _ _ (omega (arith, f));
        all-columns = part-long _ _ (omega (arith, f));
      },
      part-long _ _ (most (stripe-len-at-stripes-in-arg c)) ∙ whole (stripe-len-at-stripes-in-arg c),
      p.6,
      p.7,
    )

same_length : tie.Need-shape_of-out
same_length c = c.before.out-1.given

pub stripes_by_spec : {M : Type 1} → statement M
stripes_by_spec =
    tie.close
    (tie.spec
    (λ c. search rules)
    (λ c κs. search rules)
    mul-kept
    mul-values
    sub-tops
    mul-tops
    (λ c. search rules)
    (λ c. search rules)
    (λ c. search rules)
    (λ c. search rules)
    part-fs-end
    (λ c. search rules)
    (λ c. search rules)
    part-gs-end
    (λ c. search rules)
    (λ c. search rules)
    part-vf-end
    (λ c. search rules)
    (λ c. search rules)
    (λ c. search rules)
    part-tp-end
    (λ c. search rules)
    (λ c. search rules)
    part-rows-end
    (λ c. search rules)
    (λ c. search rules)
    part-columns-end
    (λ c. search rules)
    (λ c. search rules)
    part-u-end
    stripes-in-requires
    same_length
    (λ c. search rules))
