-- `edit_stripes::edit_one` meets its contract. The callees' contracts, put together.
-- Assumes nothing.
use mathlib.Core.Path.{◌≡◌, sym, ap, ◌∙◌}
use mathlib.Core.List.{List}
use Prim.Native.Nat.{ℕ, ◌-◌, ◌≤◌}
use native.Mathlib.Omega.{arith}
use lib.ListN.{length, replicate}
use borrow.Rule.Slice.PartMut.{put_mid}
use borrow.Author.Rules.{rules}
use Rattle.lists.specs.Tests.{pick}
use Rattle.sizes.specs.Sizing.{B}
use Rattle.sizes.proofs.Legal.{Legal, legal-facts, B-most}
use Rattle.edit_put.proofs.Added.{first-long}
use Rattle.edit_stripe.proofs.Rows.{put-long}
use Rattle.edit_stripes.proofs.Reach.{stripe-first, one-edited}
use Rattle.edit_stripes.proofs.edit_one.Statement.{statement}
use Rattle.edit_stripes.proofs.edit_one.Tie as tie

-- places in the code
abbrev changed_stripe-of-slice_known-2-1 : tie.After-slice_known-2-1 → tie.After-changed_stripe
changed_stripe-of-slice_known-2-1 c = c.before.before.before.before.before.before.before

abbrev start-of-stripe_len-b : tie.After-stripe_len-b → tie.Start
start-of-stripe_len-b c = c.before.before.before.before.before.before.before.before

abbrev stripe_len-b-of-slice_known-2-1 : tie.After-slice_known-2-1 → tie.After-stripe_len-b
stripe_len-b-of-slice_known-2-1 c = c.before.before.before.before.before.before.before.before.before

facts : (c : tie.Start) → Legal c.args.sizes
facts c = legal-facts _ c.requires.0.sized

-- the length of a stripe
long : (c : tie.After-stripe_len-b) → c.stripe_len-b.result ≡ B c.args.sizes
long c = c.stripe_len-b.ensures ∙ ap (λ b. pick b (B c.args.sizes) 0) c.requires.0.sized

-- the array for work
abbrev none : List ℕ
none = replicate 1024 0

most : (c : tie.After-stripe_len-b) → c.stripe_len-b.result ≤ length none
most c = omega (arith, long c, B-most _ (facts (start-of-stripe_len-b c)))

-- the stripe, at its beginning
changed-long : (c : tie.After-changed_stripe) → length c.changed_stripe.new.u ≡ c.stripe_len-b.result
changed-long c = c.changed_stripe.auto.u ∙ first-long c.stripe_len-b.result none (most c.before.before)

work-long : (c : tie.After-changed_stripe)
    → length (put_mid 0 (c.stripe_len-b.result - 0) none c.changed_stripe.new.u) ≡ 1024
work-long c = put-long c.stripe_len-b.result none c.changed_stripe.new.u (most c.before.before) (changed-long c)

changed-stripe-requires : tie.Need-changed_stripe-requires
changed-stripe-requires c κs =
    let p = c.requires in
    (p.0, p.1, p.2, p.3, p.4, first-long c.stripe_len-b.result none (most c.before) ∙ long c.before)

add-stripe-requires : tie.Need-add_stripe-requires
add-stripe-requires c κs =
    let p = c.requires in
    (p.0.sized, p.5, p.6, p.7, work-long c.before.before.before, p.8, p.9, p.10)

returns : tie.Need-returns
returns c =
    let a = c.args in
    let z = a.sizes in
    one-edited z a.points.now a.boards.now a.starts.now a.part a.on.now a.offset a.bytes.now a.s a.area.now _ _
    (stripe-first (B z) c.stripe_len-b.result none _ (long (stripe_len-b-of-slice_known-2-1 c)) (changed-long (changed_stripe-of-slice_known-2-1 c) ∙ long (stripe_len-b-of-slice_known-2-1 c)) ∙ c.changed_stripe.ensures) c.add_stripe.ensures

pub edit_one_spec : {M : Type 1} → statement M
edit_one_spec =
    tie.close
    (tie.spec
    (λ c κs. search rules)
    (λ c. search rules)
    (λ c. search rules)
    (λ c. most c)
    changed-stripe-requires
    (λ c. sym (work-long c.before.before))
    add-stripe-requires
    (λ c. search rules)
    returns)
