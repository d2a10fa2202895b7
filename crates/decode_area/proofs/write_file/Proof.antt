-- `decode_area::write_file` meets its contract: the parts of boards are their shares.
-- Assumes nothing.
use Rattle.lists.specs.Tests.{pick}
use Rattle.sizes.specs.Sizing.{α}
use Rattle.sizes.proofs.Legal.{Legal, legal-facts}
use Rattle.mbcr.specs.Read.{decoded_file}
use Rattle.decode_stripe.proofs.Made.{part-long}
use Rattle.decode_area.proofs.Parts.{part-few, below-32, lent-long, lent_placed, lent-shares}
use mathlib.Core.Path.{◌≡◌, sym, ap, ◌∙◌}
use mathlib.Core.List.{List, ◌++◌}
use Prim.Native.Nat.{ℕ, ◌≤◌, ◌*◌}
use native.Mathlib.Omega.{arith}
use lib.ListN.{length, drop, length-append}
use borrow.Author.Rules.{rules}
use Rattle.decode_area.proofs.write_file.Statement.{statement}
use Rattle.decode_area.proofs.write_file.Tie as tie

-- places in the code
abbrev share_len-of-write_file-arg-2-1 : tie.After-write_file-arg-2-1 → tie.After-share_len
share_len-of-write_file-arg-2-1 c = c.before.before.before.before.before

abbrev start-of-share_len : tie.After-share_len → tie.Start
start-of-share_len c = c.before.before.before.before.before.before

abbrev start-of-starts-1 : tie.After-starts-1 → tie.Start
start-of-starts-1 c = start-of-share_len c.before

abbrev share_len-of-slice_known-2-1 : tie.After-slice_known-2-1 → tie.After-share_len
share_len-of-slice_known-2-1 c = share_len-of-write_file-arg-2-1 c.before.before.before

abbrev start-of-places : tie.After-places → tie.Start
start-of-places c = start-of-starts-1 c.before

abbrev start-of-starts-2-1 : tie.After-starts-2-1 → tie.Start
start-of-starts-2-1 c = start-of-places c.before

-- the sizes are legal
facts : (c : tie.Start) → Legal c.args.sizes
facts c = legal-facts _ c.requires.0.sized

-- so the length of a stripe's share is that of the definitions
row : (c : tie.After-share_len) → c.share_len.result ≡ α c.args.sizes
row c = c.share_len.ensures ∙ ap (λ b. pick b (α c.args.sizes) 0) c.requires.0.sized

few : (c : tie.After-share_len) → c.args.capacity * c.share_len.result ≤ 253952
few c = part-few c.args.sizes c.args.capacity c.share_len.result (facts (start-of-share_len c)) c.requires.2 (row c)

as_long : (c : tie.After-share_len) → c.args.capacity * c.share_len.result ≡ c.args.capacity * α c.args.sizes
as_long c = ap (λ (m : ℕ). c.args.capacity * m) (row c)

starts-long : (c : tie.After-places) → length c.places.new.out ≡ c.args.sizes.k
starts-long c = c.places.auto.out ∙ part-long _ _ (omega (arith, facts (start-of-places c)))

mul-part : tie.Need-overflow_mul-part
mul-part c = omega (arith, few c)

part-starts-end : tie.Need-slice_bounds-starts-end
part-starts-end c = omega (arith, facts (start-of-share_len c))

places-requires : tie.Need-places-requires
places-requires c κs =
    let f = facts (start-of-starts-1 c) in (
      below-32 c.args.sizes c.args.boards.now f.few c.requires.0.known,
      few c.before,
      omega (arith, f, c.requires.0.counted),
      part-long _ _ (omega (arith, f)) ∙ sym c.requires.0.counted,
    )

part-file-end : tie.Need-slice_bounds-write_file-end
part-file-end c = simp length-append (omega (arith, facts (start-of-starts-2-1 c), starts-long c.before))

file-requires : tie.Need-write_file-requires
file-requires c κs =
    let a = c.args in
    let p = c.requires in
    let e = c.places.ensures in (
      p.0,
      lent-long a.sizes a.capacity a.len a.stripes _ a.boards.now a.area.now _ _ p.0.known p.0.counted p.4 p.1 p.3 (as_long (share_len-of-write_file-arg-2-1 c)) e,
      lent_placed a.sizes a.capacity a.len a.stripes _ a.boards.now a.area.now _ _ p.0.known p.0.counted p.4 p.1 p.3 (as_long (share_len-of-write_file-arg-2-1 c)) e,
      omega (arith, p.2, p.3),
      p.1,
      p.5,
      p.6,
    )

returns : tie.Need-returns
returns c =
    let a = c.args in
    let p = c.requires in
    c.write_file.ensures
    ∙ ap (λ (l : List ℕ). decoded_file a.sizes a.points.now a.len a.boards.now l ++ drop a.len a.out.now)
    (lent-shares a.sizes a.capacity a.len a.stripes _ a.boards.now a.area.now _ _ p.0.known p.0.counted p.4 p.1 p.3 (as_long (share_len-of-slice_known-2-1 c))
    c.places.ensures)

pub write_file_spec : {M : Type 1} → statement M
write_file_spec =
    tie.close
    (tie.spec
    (λ c κs. search rules)
    mul-part
    (λ c. search rules)
    (λ c. search rules)
    part-starts-end
    places-requires
    (λ c. search rules)
    (λ c. search rules)
    part-file-end
    file-requires
    (λ c. search rules)
    returns)
