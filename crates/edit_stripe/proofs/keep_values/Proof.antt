-- `edit_stripe::keep_values` meets its contract. The callees' contracts, put together.
-- Assumes nothing.
use mathlib.Core.Path.{◌≡◌, refl, sym, ap, ◌∙◌}
use mathlib.Core.List.{List, ◌++◌}
use Prim.Native.Nat.{ℕ, ◌*◌, ◌-◌, ◌≤◌}
use native.Mathlib.Nat.{sub-zero}
use native.Mathlib.Omega.{arith}
use lib.ListN.{length, take, drop, replicate}
use lib.Seq.{length-take-le}
use borrow.Rule.Slice.PartMut.{put_mid}
use borrow.Author.Rules.{rules}
use Rattle.lists.specs.Tests.{pick}
use Rattle.sizes.specs.Sizing.{B}
use Rattle.sizes.proofs.Legal.{Legal, legal-facts, B-most}
use Rattle.edit_put.proofs.Added.{first-long}
use Rattle.edit_stripe.specs.Steps.{laid_rows}
use Rattle.edit_stripe.proofs.Rows.{put-long}
use Rattle.edit_stripe.proofs.Changed.{values-kept}
use Rattle.edit_stripe.proofs.keep_values.Statement.{statement}
use Rattle.edit_stripe.proofs.keep_values.Tie as tie

-- places in the code
abbrev values-of-values-arg-2-1 : tie.After-values-arg-2-1 → tie.After-values
values-of-values-arg-2-1 c = c.before.before.before.before.before.before.before

abbrev lay_rows-of-top_rows : tie.After-top_rows → tie.After-lay_rows
lay_rows-of-top_rows c = c.before.before.before.before.before.before.before.before

abbrev start-of-values-arg-1 : tie.After-values-arg-1 → tie.Start
start-of-values-arg-1 c = c.before.before.before.before.before.before.before.before.before.before

abbrev start-of-values : tie.After-values → tie.Start
start-of-values c = start-of-values-arg-1 c.before

abbrev start-of-rows-4-1 : tie.After-rows-4-1 → tie.Start
start-of-rows-4-1 c = start-of-values c.before.before.before

abbrev start-of-values-arg-2-1 : tie.After-values-arg-2-1 → tie.Start
start-of-values-arg-2-1 c = start-of-rows-4-1 c.before.before.before.before

abbrev stripe_len-b-of-slice_known-3-1 : tie.After-slice_known-3-1 → tie.After-stripe_len-b
stripe_len-b-of-slice_known-3-1 c = c.before.before.before.before.before.before.before.before.before.before.before.before.before.before.before.before.before.before

abbrev start-of-slice_known-3-1 : tie.After-slice_known-3-1 → tie.Start
start-of-slice_known-3-1 c = start-of-values-arg-2-1 c.before.before.before

facts : (c : tie.Start) → Legal c.args.sizes
facts c = legal-facts _ c.requires.0

-- the length of a stripe
long : (c : tie.After-stripe_len-b) → c.stripe_len-b.result ≡ B c.args.sizes
long c = c.stripe_len-b.ensures ∙ ap (λ b. pick b (B c.args.sizes) 0) c.requires.0

inside : (c : tie.After-stripe_len-b) → c.stripe_len-b.result ≤ length c.args.u.now
inside c = omega (arith, long c, B-most _ (facts c.before.before.before), c.requires.2)

lay-rows-requires : tie.Need-lay_rows-requires
lay-rows-requires c κs = (c.requires.0, first-long c.stripe_len-b.result _ (inside c.before.before.before) ∙ long c.before.before.before, refl)

values-requires : tie.Need-values-requires
values-requires c κs =
    let f = facts (start-of-values-arg-1 c) in
    (c.requires.1, omega (arith, f.enough, f.few), search rules, c.requires.2)

rows_long : (c : tie.After-lay_rows) → length c.lay_rows.new.out ≡ 1024
rows_long c = c.lay_rows.auto.out

u-long : (c : tie.After-values) → length c.values.new.out ≡ 1024
u-long c = c.values.auto.out ∙ c.requires.2

-- the rows by board lie within
room : (c : tie.After-values) → c.args.sizes.n * 32 ≤ length c.lay_rows.new.out
room c = let f = facts (start-of-values c) in omega (arith, f.few, rows_long c.before.before.before.before)

top-rows-requires : tie.Need-top_rows-requires
top-rows-requires c κs =
    let f = facts (start-of-rows-4-1 c) in (
      omega (arith, f.few),
      omega (arith, f.enough, f.few),
      omega (arith, u-long c.before.before.before, f.enough, f.few),
      first-long (c.args.sizes.n * 32) c.lay_rows.new.out (room c.before.before.before),
    )

turned-long : (c : tie.After-top_rows) →
    length (put_mid 0 (c.args.sizes.n * 32 - 0) c.lay_rows.new.out c.top_rows.new.out) ≡ 1024
turned-long c =
    let rows = c.lay_rows.new.out in
    let m = c.args.sizes.n * 32 in
    put-long m rows c.top_rows.new.out (room c.before.before.before.before) (c.top_rows.auto.out ∙ first-long m rows (room c.before.before.before.before)) ∙ rows_long (lay_rows-of-top_rows c)

values-requires-2 : tie.Need-values-requires-2
values-requires-2 c κs =
    (c.requires.1, (facts (start-of-values-arg-2-1 c)).few, turned-long c.before.before.before, u-long (values-of-values-arg-2-1 c))

returns : tie.Need-returns
returns c =
    let a = c.args in
    let z = a.sizes in
    let f = facts (start-of-slice_known-3-1 c) in
    let u : List ℕ = take (B z) a.u.now in
    let cut : take (c.stripe_len-b.result - 0) a.u.now ≡ u = ap (λ (m : ℕ). take m a.u.now) (sub-zero c.stripe_len-b.result ∙ long (stripe_len-b-of-slice_known-3-1 c)) in
    values-kept z f a.points.now u c.requires.1 (length-take-le (B z) a.u.now (omega (arith, inside (stripe_len-b-of-slice_known-3-1 c), long (stripe_len-b-of-slice_known-3-1 c))))
    c.lay_rows.new.out _ c.values.new.out _ c.top_rows.new.out c.values-2.new.out _
    (c.lay_rows.ensures ∙ ap (λ (x : List ℕ). laid_rows z x ++ drop (z.d * 32) (replicate 1024 0)) cut)
    c.values.ensures c.top_rows.ensures c.values-2.ensures

pub keep_values_spec : {M : Type 1} → statement M
keep_values_spec =
    tie.close
    (tie.spec
    (λ c κs. search rules)
    (λ c. omega (arith, facts c.before.before.before.before))
    (λ c. search rules)
    (λ c. search rules)
    (λ c. inside c.before)
    (λ c. search rules)
    lay-rows-requires
    (λ c. search rules)
    values-requires
    (λ c. search rules)
    (λ c. search rules)
    (λ c. room c.before.before)
    top-rows-requires
    (λ c. sym (turned-long c.before.before))
    values-requires-2
    (λ c. search rules)
    returns)
