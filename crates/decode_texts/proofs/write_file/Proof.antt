-- `decode_texts::write_file` meets its contract: what it calls, with parts of arrays, to the beginning of the output.
-- Assumes nothing.
use mathlib.Core.Path.{◌≡◌, sym, ap, ◌∙◌}
use Prim.Native.Nat.{ℕ, ◌≤◌, ◌-◌, ◌*◌}
use native.Mathlib.Omega.{arith}
use borrow.Author.Rules.{rules}
use lib.ListN.{length, take, drop, length-take, length-append}
use Rattle.lists.specs.Tests.{pick}
use Rattle.sizes.specs.Sizing.{α, stripes}
use Rattle.sizes.proofs.Legal.{Legal, legal-facts, α-most}
use Rattle.decode_stripe.proofs.Made.{part-long}
use Rattle.text_stripes.specs.Steps.{spelled}
use Rattle.decode_texts.proofs.ByStripes.{lent-starts, stripe-few, file-put}
use Rattle.decode_texts.proofs.write_file.Statement.{statement}
use Rattle.decode_texts.proofs.write_file.Tie as tie

-- places in the code
abbrev share_len-share-of-stripes_file-arg-2-1 : tie.After-stripes_file-arg-2-1 → tie.After-share_len-share
share_len-share-of-stripes_file-arg-2-1 c = c.before.before.before.before.before.before

abbrev start-of-share_len-share : tie.After-share_len-share → tie.Start
start-of-share_len-share c = c.before.before.before.before.before.before.before

abbrev start-of-starts-1 : tie.After-starts-1 → tie.Start
start-of-starts-1 c = start-of-share_len-share c.before

abbrev start-of-starts : tie.After-starts → tie.Start
start-of-starts c = start-of-starts-1 c.before

abbrev start-of-starts-2-1 : tie.After-starts-2-1 → tie.Start
start-of-starts-2-1 c = start-of-starts c.before

abbrev start-of-stripes_file-arg-2-1 : tie.After-stripes_file-arg-2-1 → tie.Start
start-of-stripes_file-arg-2-1 c = start-of-starts-2-1 c.before.before.before

-- the sizes are legal
facts : (c : tie.Start) → Legal c.args.sizes
facts c = legal-facts _ c.requires.0.sized

-- so the length of a share is that of the definitions
row : (c : tie.After-share_len-share) → c.share_len-share.result ≡ α c.args.sizes
row c = c.share_len-share.ensures ∙ ap (λ b. pick b (α c.args.sizes) 0) c.requires.0.sized

few : (c : tie.After-share_len-share) → c.args.sizes.k * c.share_len-share.result ≤ 1922
few c = stripe-few c.args.sizes (facts (start-of-share_len-share c)) c.share_len-share.result (row c)

places-long : (c : tie.After-starts) → length c.starts.new.out ≡ c.args.sizes.k
places-long c = c.starts.auto.out ∙ part-long _ _ (omega (arith, facts (start-of-starts c)))

-- the part of the output is as long as the file
file-long : (g : tie.Start) → length (take (g.args.len - 0) (drop 0 g.args.out.now)) ≡ g.args.len
file-long g = part-long g.args.len g.args.out.now g.requires.6

mul-all : tie.Need-overflow_mul-all
mul-all c = omega (arith, few c)

part-starts-end : tie.Need-slice_bounds-starts-end
part-starts-end c = omega (arith, facts (start-of-share_len-share c))

starts-requires : tie.Need-starts-requires
starts-requires c κs =
    let f = facts (start-of-starts-1 c) in
    (omega (arith, row c.before, α-most _ f), simp length-take (omega (arith, f)))

part-stripes-file-end : tie.Need-slice_bounds-stripes_file-end
part-stripes-file-end c = simp length-append (omega (arith, facts (start-of-starts-2-1 c), places-long c.before))

part-held-end : tie.Need-slice_bounds-held-end
part-held-end c = omega (arith, few c.before.before.before.before)

stripes-file-requires : tie.Need-stripes_file-requires
stripes-file-requires c κs =
    let z = c.args.sizes in
    let p = c.requires in (
      p.0,
      p.1,
      p.2,
      p.3 ∙ ap (stripes z) (sym (file-long (start-of-stripes_file-arg-2-1 c))),
      p.4,
      p.5,
      lent-starts z _ _ _ (row (share_len-share-of-stripes_file-arg-2-1 c)) (omega (arith, facts (start-of-stripes_file-arg-2-1 c))) c.starts.ensures,
      part-long _ _ (few (share_len-share-of-stripes_file-arg-2-1 c)) ∙ ap (λ (w : ℕ). z.k * w) (row (share_len-share-of-stripes_file-arg-2-1 c)),
    )

returns : tie.Need-returns
returns c =
    let a = c.args in
    file-put a.sizes a.points.now a.len a.boards.now (spelled a.text.now a.places.now 0 (a.stripes * α a.sizes)) a.out.now
    c.stripes_file.new.out c.requires.6 c.stripes_file.ensures

pub write_file_spec : {M : Type 1} → statement M
write_file_spec =
    tie.close
    (tie.spec
    (λ c κs. search rules)
    mul-all
    (λ c. search rules)
    (λ c. search rules)
    part-starts-end
    starts-requires
    (λ c. search rules)
    (λ c. search rules)
    part-stripes-file-end
    (λ c. search rules)
    (λ c. search rules)
    part-held-end
    (λ c. search rules)
    (λ c. search rules)
    (λ c. search rules)
    stripes-file-requires
    (λ c. search rules)
    returns)
