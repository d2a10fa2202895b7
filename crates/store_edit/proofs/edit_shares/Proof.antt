-- `store_edit::edit_shares` meets its contract: the boards read start at multiples of a part, and those changed are the boards in service.
-- Assumes nothing.
use mathlib.Core.Path.{◌≡◌, refl, sym, ap, ◌∙◌}
use mathlib.Core.Bool.{true}
use Prim.Native.Nat.{ℕ, ◌+◌, ◌*◌, ◌≤◌}
use native.Mathlib.Nat.{mul-le-mul_right}
use native.Mathlib.Omega.{arith}
use lib.ListN.{length, length-append}
use borrow.Author.Rules.{rules}
use Rattle.lists.specs.Tests.{pick}
use Rattle.sizes.specs.Sizing.{α, B, stripes}
use Rattle.sizes.proofs.Legal.{Legal, legal-facts, stripes-least}
use Rattle.store_lines.specs.Steps.{record_of}
use Rattle.decode_area.proofs.Parts.{part-few, below-32, lent-are, lent-long, lent_placed}
use Rattle.edit_put.proofs.Added.{first-long}
use Rattle.store_edit.proofs.On.{lent_is, lent_below, lent-different}
use Rattle.store_edit.proofs.Whole.{whole}
use Rattle.store_edit.proofs.edit_shares.Statement.{statement}
use Rattle.store_edit.proofs.edit_shares.Tie as tie

-- places in the code
abbrev start-of-share_len : tie.After-share_len → tie.Start
start-of-share_len c = c.before.before.before.before.before.before.before

abbrev start-of-starts-1 : tie.After-starts-1 → tie.Start
start-of-starts-1 c = start-of-share_len c.before

abbrev share_len-of-edit_reached-arg-3-1 : tie.After-edit_reached-arg-3-1 → tie.After-share_len
share_len-of-edit_reached-arg-3-1 c = c.before.before.before.before.before.before.before.before.before

abbrev start-of-places : tie.After-places → tie.Start
start-of-places c = start-of-starts-1 c.before

abbrev start-of-on-1 : tie.After-on-1 → tie.Start
start-of-on-1 c = start-of-places c.before.before

abbrev share_len-of-slice_known-2-1 : tie.After-slice_known-2-1 → tie.After-share_len
share_len-of-slice_known-2-1 c = share_len-of-edit_reached-arg-3-1 c.before.before.before

abbrev start-of-on-2-1 : tie.After-on-2-1 → tie.Start
start-of-on-2-1 c = start-of-on-1 c.before.before

abbrev start-of-edit_reached-arg-1 : tie.After-edit_reached-arg-1 → tie.Start
start-of-edit_reached-arg-1 c = start-of-on-2-1 c.before

abbrev start-of-edit_reached-arg-3-1 : tie.After-edit_reached-arg-3-1 → tie.Start
start-of-edit_reached-arg-3-1 c = start-of-edit_reached-arg-1 c.before.before

abbrev start-of-slice_known-2-1 : tie.After-slice_known-2-1 → tie.Start
start-of-slice_known-2-1 c = start-of-edit_reached-arg-3-1 c.before.before.before

facts : (c : tie.Start) → Legal c.args.sizes
facts c = legal-facts _ c.requires.0.sized

-- so the length of a stripe's share is that of the definitions
row : (c : tie.After-share_len) → c.share_len.result ≡ α c.args.sizes
row c = c.share_len.ensures ∙ ap (λ b. pick b (α c.args.sizes) 0) c.requires.0.sized

part-most : (c : tie.After-share_len) → c.args.capacity * c.share_len.result ≤ 253952
part-most c = part-few c.args.sizes c.args.capacity c.share_len.result (facts (start-of-share_len c)) c.requires.3 (row c)

as_long : (c : tie.After-share_len) → c.args.capacity * c.share_len.result ≡ c.args.capacity * α c.args.sizes
as_long c = ap (λ (m : ℕ). c.args.capacity * m) (row c)

starts-long : (c : tie.After-places) → length c.places.new.out ≡ c.args.sizes.k
starts-long c = c.places.auto.out ∙ first-long _ _ (omega (arith, facts (start-of-places c)))

-- the stripes up to the end of the edit
abbrev reach : tie.Start → ℕ
reach c = c.args.offset + length c.args.bytes.now

few-stripes : (c : tie.Start) → stripes c.args.sizes (reach c) ≤ c.args.capacity
few-stripes c = stripes-least c.args.sizes (facts c) (reach c) c.args.capacity c.requires.4

places-requires : tie.Need-places-requires
places-requires c κs =
    let f = facts (start-of-starts-1 c) in (
      below-32 c.args.sizes c.args.boards.now f.few c.requires.0.known,
      part-most c.before,
      omega (arith, f, c.requires.0.counted),
      first-long _ _ (omega (arith, f)) ∙ sym c.requires.0.counted,
    )

edit-reached-requires : tie.Need-edit_reached-requires
edit-reached-requires c κs =
    let a = c.args in
    let z = a.sizes in
    let p = c.requires in
    let e = c.places.ensures in
    let r = few-stripes (start-of-edit_reached-arg-3-1 c) in
    let q : stripes z (reach (start-of-edit_reached-arg-3-1 c)) * α z ≤ a.capacity * α z = mul-le-mul_right (α z) r in
    let h : a.capacity * B z ≤ 4096 * B z = mul-le-mul_right (B z) p.3 in
    let b = c.boards_on-m.ensures.1 in (
      p.0,
      lent-long z a.capacity (reach (start-of-edit_reached-arg-3-1 c)) (stripes z (reach (start-of-edit_reached-arg-3-1 c))) _ a.boards.now a.area.now _ _ p.0.known p.0.counted p.5 refl r (as_long (share_len-of-edit_reached-arg-3-1 c)) e,
      lent_placed z a.capacity (reach (start-of-edit_reached-arg-3-1 c)) (stripes z (reach (start-of-edit_reached-arg-3-1 c))) _ a.boards.now a.area.now _ _ p.0.known p.0.counted p.5 refl r (as_long (share_len-of-edit_reached-arg-3-1 c)) e,
      omega (arith, h, p.4),
      p.6,
      p.1,
      part-most (share_len-of-edit_reached-arg-3-1 c),
      omega (arith, q, as_long (share_len-of-edit_reached-arg-3-1 c)),
      lent_below z a.marks.now c.boards_on-m.result c.boards_on-m.new.out b,
      lent-different z a.marks.now c.boards_on-m.result c.boards_on-m.new.out b,
      p.5 ∙ ap (λ (m : ℕ). z.n * m) (sym (as_long (share_len-of-edit_reached-arg-3-1 c))),
    )

returns : tie.Need-returns
returns c =
    λ len pass.
    let a = c.args in
    let z = a.sizes in
    let p = c.requires in
    whole (record_of z a.points.now a.capacity true len a.marks.now) (facts (start-of-slice_known-2-1 c)) a.area.now a.offset a.bytes.now a.boards.now pass _ _ _ _
    (lent-are z a.capacity (reach (start-of-slice_known-2-1 c)) (stripes z (reach (start-of-slice_known-2-1 c))) _ a.boards.now a.area.now _ _ p.0.known p.0.counted p.5 refl (few-stripes (start-of-slice_known-2-1 c)) (as_long (share_len-of-slice_known-2-1 c)) c.places.ensures)
    (as_long (share_len-of-slice_known-2-1 c)) (lent_is z a.marks.now c.boards_on-m.result c.boards_on-m.new.out c.boards_on-m.ensures.1) c.edit_reached.ensures

pub edit_shares_spec : {M : Type 1} → statement M
edit_shares_spec =
    tie.close
    (tie.spec
    (λ c κs. search rules)
    (λ c. omega (arith, part-most c))
    (λ c. search rules)
    (λ c. search rules)
    (λ c. omega (arith, facts (start-of-share_len c)))
    places-requires
    (λ c. search rules)
    (λ c κs. ((facts (start-of-on-1 c)).few, c.requires.2, refl))
    (λ c. search rules)
    (λ c. search rules)
    (λ c. simp length-append (omega (arith, facts (start-of-on-2-1 c), starts-long c.before.before.before.before)))
    (λ c. search rules)
    (λ c. search rules)
    (λ c. omega (arith, c.boards_on-m.ensures.0, (facts (start-of-edit_reached-arg-1 c)).few))
    edit-reached-requires
    (λ c. search rules)
    returns)
