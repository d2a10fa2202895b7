-- `decode_shares::write_file` meets its contract: the shares start at multiples of their length.
-- Assumes nothing.
use Rattle.lists.specs.Tests.{pick}
use Rattle.sizes.specs.Sizing.{α}
use Rattle.sizes.proofs.Legal.{Legal, legal-facts}
use Rattle.mbcr.specs.Read.{decoded_file}
use Rattle.decode_stripe.proofs.Made.{part-long}
use Rattle.decode_shares.proofs.Places.{share-few, lent-long, lent_placed, lent-shares}
use mathlib.Core.Path.{◌≡◌, ap, ◌∙◌}
use mathlib.Core.List.{List, ◌++◌}
use Prim.Native.Nat.{ℕ, ◌≤◌, ◌*◌}
use native.Mathlib.Omega.{arith}
use lib.ListN.{length, drop, length-take, length-append}
use borrow.Author.Rules.{rules}
use Rattle.decode_shares.proofs.write_file.Statement.{statement}
use Rattle.decode_shares.proofs.write_file.Tie as tie

-- places in the code
abbrev share_len-of-write_file-arg-2-1 : tie.After-write_file-arg-2-1 → tie.After-share_len
share_len-of-write_file-arg-2-1 c = c.before.before.before.before.before

abbrev start-of-share_len : tie.After-share_len → tie.Start
start-of-share_len c = c.before.before.before.before.before.before

abbrev start-of-places-1 : tie.After-places-1 → tie.Start
start-of-places-1 c = start-of-share_len c.before

abbrev share_len-of-slice_known-2-1 : tie.After-slice_known-2-1 → tie.After-share_len
share_len-of-slice_known-2-1 c = share_len-of-write_file-arg-2-1 c.before.before.before

abbrev start-of-starts : tie.After-starts → tie.Start
start-of-starts c = start-of-places-1 c.before

abbrev start-of-places-2-1 : tie.After-places-2-1 → tie.Start
start-of-places-2-1 c = start-of-starts c.before

abbrev start-of-write_file-arg-2-1 : tie.After-write_file-arg-2-1 → tie.Start
start-of-write_file-arg-2-1 c = start-of-places-2-1 c.before.before

abbrev start-of-slice_known-2-1 : tie.After-slice_known-2-1 → tie.Start
start-of-slice_known-2-1 c = start-of-write_file-arg-2-1 c.before.before.before

-- the sizes are legal
facts : (c : tie.Start) → Legal c.args.sizes
facts c = legal-facts _ c.requires.0.sized

-- so the length of a share is that of the definitions
row : (c : tie.After-share_len) → c.share_len.result ≡ α c.args.sizes
row c = c.share_len.ensures ∙ ap (λ b. pick b (α c.args.sizes) 0) c.requires.0.sized

few : (c : tie.After-share_len) → c.args.stripes * c.share_len.result ≤ 253952
few c = share-few c.args.sizes c.args.stripes c.share_len.result (facts (start-of-share_len c)) c.requires.1 (row c)

as_long : (c : tie.After-share_len) → c.args.stripes * c.share_len.result ≡ c.args.stripes * α c.args.sizes
as_long c = ap (λ (m : ℕ). c.args.stripes * m) (row c)

places-long : (c : tie.After-starts) → length c.starts.new.out ≡ c.args.sizes.k
places-long c = c.starts.auto.out ∙ part-long _ _ (omega (arith, facts (start-of-starts c)))

mul-share : tie.Need-overflow_mul-share
mul-share c = omega (arith, few c)

part-places-end : tie.Need-slice_bounds-places-end
part-places-end c = omega (arith, facts (start-of-share_len c))

starts-requires : tie.Need-starts-requires
starts-requires c κs = (few c.before, simp length-take (omega (arith, facts (start-of-places-1 c))))

part-file-end : tie.Need-slice_bounds-write_file-end
part-file-end c = simp length-append (omega (arith, facts (start-of-places-2-1 c), places-long c.before))

file-requires : tie.Need-write_file-requires
file-requires c κs =
    let a = c.args in
    let p = c.requires in
    let e = c.starts.ensures in
    let h : a.sizes.k ≤ 32 = omega (arith, facts (start-of-write_file-arg-2-1 c)) in
    (p.0, lent-long a.sizes a.stripes _ _ _ a.held.now (as_long (share_len-of-write_file-arg-2-1 c)) h p.3 e, lent_placed a.sizes a.stripes _ _ _ a.held.now (as_long (share_len-of-write_file-arg-2-1 c)) h p.3 e, p.1, p.2, p.4, p.5)

returns : tie.Need-returns
returns c =
    let a = c.args in
    c.write_file.ensures
    ∙ ap (λ (l : List ℕ). decoded_file a.sizes a.points.now a.total a.boards.now l ++ drop a.total a.out.now)
    (lent-shares a.sizes a.stripes _ _ _ a.held.now (as_long (share_len-of-slice_known-2-1 c)) (omega (arith, facts (start-of-slice_known-2-1 c))) c.requires.3 c.starts.ensures)

pub write_file_spec : {M : Type 1} → statement M
write_file_spec =
    tie.close
    (tie.spec
    (λ c κs. search rules)
    mul-share
    (λ c. search rules)
    (λ c. search rules)
    part-places-end
    starts-requires
    (λ c. search rules)
    (λ c. search rules)
    part-file-end
    file-requires
    (λ c. search rules)
    returns)
