-- `decode_texts::agrees` meets its contract: what it calls, with parts of arrays.
-- Assumes nothing.
use mathlib.Core.Path.{◌≡◌, ap, ◌∙◌}
use Prim.Native.Nat.{ℕ, ◌≤◌, ◌*◌}
use native.Mathlib.Omega.{arith}
use borrow.Author.Rules.{rules}
use lib.ListN.{length, length-take, length-append}
use Rattle.lists.specs.Tests.{pick}
use Rattle.sizes.specs.Sizing.{α}
use Rattle.sizes.proofs.Legal.{Legal, legal-facts, α-most}
use Rattle.decode_stripe.proofs.Made.{part-long}
use Rattle.decode_texts.proofs.ByStripes.{lent-starts, stripe-few}
use Rattle.decode_texts.proofs.agrees.Statement.{statement}
use Rattle.decode_texts.proofs.agrees.Tie as tie

-- places in the code
abbrev share_len-share-of-held-1 : tie.After-held-1 → tie.After-share_len-share
share_len-share-of-held-1 c = c.before.before.before.before.before

abbrev start-of-share_len-share : tie.After-share_len-share → tie.Start
start-of-share_len-share c = c.before.before.before.before.before.before

abbrev start-of-starts-1 : tie.After-starts-1 → tie.Start
start-of-starts-1 c = start-of-share_len-share c.before

abbrev start-of-starts : tie.After-starts → tie.Start
start-of-starts c = start-of-starts-1 c.before

abbrev start-of-starts-2-1 : tie.After-starts-2-1 → tie.Start
start-of-starts-2-1 c = start-of-starts c.before

abbrev start-of-held-1 : tie.After-held-1 → tie.Start
start-of-held-1 c = start-of-starts-2-1 c.before.before

-- the sizes are legal
facts : (c : tie.Start) → Legal c.args.sizes
facts c = legal-facts _ c.requires.0.sized

-- so the length of a share is that of the definitions
row : (c : tie.After-share_len-share) → c.share_len-share.result ≡ α c.args.sizes
row c = c.share_len-share.ensures ∙ ap (λ b. pick b (α c.args.sizes) 0) c.requires.0.sized

few : (c : tie.After-share_len-share) → c.args.sizes.k * c.share_len-share.result ≤ 1922
few c = stripe-few c.args.sizes (facts (start-of-share_len-share c)) c.share_len-share.result (row c)

places-long : (c : tie.After-starts) → length c.starts.new.out ≡ c.args.sizes.k
places-long c = c.starts.auto.out ∙ part-long _ _ (omega (arith, facts (start-of-starts c)))

mul-all : tie.Need-overflow_mul-all
mul-all c = omega (arith, few c)

part-starts-end : tie.Need-slice_bounds-starts-end
part-starts-end c = omega (arith, facts (start-of-share_len-share c))

starts-requires : tie.Need-starts-requires
starts-requires c κs =
    let f = facts (start-of-starts-1 c) in
    (omega (arith, row c.before, α-most _ f), simp length-take (omega (arith, f)))

part-stripes-agree-end : tie.Need-slice_bounds-stripes_agree-end
part-stripes-agree-end c = simp length-append (omega (arith, facts (start-of-starts-2-1 c), places-long c.before))

part-held-end : tie.Need-slice_bounds-held-end
part-held-end c = omega (arith, few c.before.before.before.before)

stripes-agree-requires : tie.Need-stripes_agree-requires
stripes-agree-requires c κs =
    let z = c.args.sizes in
    let p = c.requires in (
      p.0,
      p.1,
      p.2,
      p.3,
      p.4,
      p.5,
      lent-starts z _ _ _ (row (share_len-share-of-held-1 c)) (omega (arith, facts (start-of-held-1 c))) c.starts.ensures,
      part-long _ _ (few (share_len-share-of-held-1 c)) ∙ ap (λ (w : ℕ). z.k * w) (row (share_len-share-of-held-1 c)),
    )

pub agrees_spec : {M : Type 1} → statement M
agrees_spec =
    tie.close
    (tie.spec
    (λ c κs. search rules)
    mul-all
    (λ c. search rules)
    (λ c. search rules)
    part-starts-end
    starts-requires
    (λ c. search rules)
    (λ c. search rules)
    part-stripes-agree-end
    (λ c. search rules)
    (λ c. search rules)
    part-held-end
    stripes-agree-requires
    (λ c. search rules))
