-- `decode_padding::padding` meets its contract: the end of the stripe in the working array.
-- Assumes nothing.
use Rattle.lists.specs.Tests.{pick}
use Rattle.sizes.specs.Sizing.{B}
use Rattle.sizes.proofs.Legal.{Legal, legal-facts, B-most}
use Rattle.mbcr.proofs.Decode.{length-decoded}
use Rattle.decode_laws.specs.Steps.{zeros}
use Rattle.decode_stripe.proofs.Made.{part-long}
use Rattle.stripes_cut.specs.Steps.{stripe_at}
use Rattle.decode_padding.proofs.Padded.{end_is, one-long, one-short}
use mathlib.Core.Path.{◌≡◌, sym, ap, ◌∙◌}
use mathlib.Core.List.{List}
use Prim.Native.Nat.{ℕ, ◌≤◌}
use native.Mathlib.Omega.{arith}
use lib.ListN.{length, length-append}
use borrow.Author.Rules.{rules}
use Rattle.decode_padding.proofs.padding.Statement.{statement}
use Rattle.decode_padding.proofs.padding.Tie as tie

-- places in the code
abbrev stripe_len-b-of-zeros : tie.After-zeros → tie.After-stripe_len-b
stripe_len-b-of-zeros c = c.before.before.before.before.before

abbrev start-of-stripe_len-b : tie.After-stripe_len-b → tie.Start
start-of-stripe_len-b c = c.before.before.before.before.before.before

abbrev start-of-zeros : tie.After-zeros → tie.Start
start-of-zeros c = start-of-stripe_len-b c.before.before.before.before.before

-- the sizes are legal
facts : (c : tie.Start) → Legal c.args.sizes
facts c = legal-facts _ c.requires.0.sized

-- the length of a stripe
whole : (c : tie.After-stripe_len-b) → c.stripe_len-b.result ≡ B c.args.sizes
whole c = c.stripe_len-b.ensures ∙ ap (λ b. pick b (B c.args.sizes) 0) c.requires.0.sized

most : (c : tie.After-stripe_len-b) → c.stripe_len-b.result ≤ 992
most c = omega (arith, whole c, B-most _ (facts (start-of-stripe_len-b c)))

-- the stripe
abbrev each : tie.Start → ℕ → List ℕ
each c s = let a = c.args in stripe_at a.sizes a.points.now a.boards.now a.starts.now a.bytes.now s

each_long : (c : tie.After-stripe_len-b) → length (each (start-of-stripe_len-b c) c.args.s) ≡ c.stripe_len-b.result
each_long c =
    let a = c.args in
    length-decoded a.sizes a.points.now (facts (start-of-stripe_len-b c)) a.boards.now c.requires.0.counted _ ∙ sym (whole c)

y-long : (c : tie.After-stripes) → length c.stripes.new.out ≡ c.stripe_len-b.result
y-long c = c.stripes.auto.out ∙ part-long _ _ (most c.before.before)

part-u-end : tie.Need-slice_bounds-u-end
part-u-end c = most c

stripes-requires : tie.Need-stripes-requires
stripes-requires c κs =
    let p = c.requires in
    (p.0, p.1, p.2, p.3, p.5, one-long _ _ _ (whole c.before) (most c.before), one-short _ _ _ (whole c.before) (most c.before))

sub-zeros : tie.Need-slice_bounds-zeros-count
sub-zeros c = omega (arith, whole c.before.before.before, c.requires.4)

part-zeros-start : tie.Need-slice_bounds-zeros-start
part-zeros-start c = omega (arith, whole c.before.before.before, c.requires.4)

part-zeros-end : tie.Need-slice_bounds-zeros-end
part-zeros-end c = simp length-append (omega (arith, y-long c.before, most c.before.before.before))

returns : tie.Need-returns
returns c =
    let e = c.stripes.ensures in
    c.zeros.ensures
    ∙ ap zeros (end_is c.stripe_len-b.result c.args.s (each (start-of-zeros c)) _ _ (each_long (stripe_len-b-of-zeros c)) (most (stripe_len-b-of-zeros c)) e c.args.rest (omega (arith, whole (stripe_len-b-of-zeros c), c.requires.4)))

pub padding_spec : {M : Type 1} → statement M
padding_spec =
    tie.close
    (tie.spec
    (λ c κs. search rules)
    (λ c. search rules)
    (λ c. search rules)
    part-u-end
    stripes-requires
    sub-zeros
    part-zeros-start
    part-zeros-end
    (λ c κs. search rules)
    returns)
