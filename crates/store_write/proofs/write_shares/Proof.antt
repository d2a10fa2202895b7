-- `store_write::write_shares` meets its contract. The callees' contracts, put together.
-- Assumes nothing.
use mathlib.Core.Path.{refl}
use Prim.Native.Nat.{ℕ, ◌+◌, ◌*◌, ◌≤◌}
use native.Mathlib.Omega.{arith}
use borrow.Author.Rules.{rules}
use mathlib.Core.Bool.{true}
use mathlib.Core.List.{[]}
use native.Mathlib.Nat.{mul-le-mul_right}
use Rattle.sizes.proofs.Legal.{legal-facts, α-most}
use Rattle.sizes.specs.Sizing.{α}
use Rattle.powers.proofs.Turns.{powers-tabled}
use Rattle.store_lines.specs.Steps.{record_of}
use Rattle.store_write.proofs.Places.{shares-put}
use Rattle.store_write.proofs.write_shares.Statement.{statement}
use Rattle.store_write.proofs.write_shares.Tie as tie

-- places in the code
abbrev st-at-struct-known : tie.After-struct_known-1 → tie.Start
st-at-struct-known c = c.before.before.before.before

abbrev st : tie.After-struct_known-2-1 → tie.Start
st c = st-at-struct-known c.before

abbrev st_2 : tie.After-struct_known-3-1 → tie.Start
st_2 c = st c.before

abbrev st_3 : tie.After-tables-1 → tie.Start
st_3 c = st_2 c.before

abbrev fill-powers-at-write-stripes-arg : tie.After-write_stripes-arg-1 → tie.After-fill_powers
fill-powers-at-write-stripes-arg c = c.before.before.before.before.before

abbrev st_4 : tie.After-write_stripes-arg-1 → tie.Start
st_4 c = st_3 (fill-powers-at-write-stripes-arg c).before

abbrev write-stripes-at-slice-known2 : tie.After-slice_known-2-1 → tie.After-write_stripes
write-stripes-at-slice-known2 c = c.before.before.before.before

abbrev fill-powers : tie.After-slice_known-2-1 → tie.After-fill_powers
fill-powers c = fill-powers-at-write-stripes-arg (write-stripes-at-slice-known2 c).before

abbrev st_5 : tie.After-slice_known-2-1 → tie.Start
st_5 c = st_4 (write-stripes-at-slice-known2 c).before

-- a board's part is at most 4,096 stripes of 62 bytes
part-most : (a c : ℕ) → c ≤ 4096 → a ≤ 62 → c * a ≤ 253952
part-most a c h k =
    let p : c * a ≤ 4096 * a = mul-le-mul_right a h in
    omega arith

mul-part : tie.Need-overflow_mul-part
mul-part c = omega (arith, legal-facts _ (st-at-struct-known c).requires.0)

add-part : tie.Need-overflow_add-part
add-part c = omega (arith, legal-facts _ (st c).requires.0)

sub_part : tie.Need-overflow_sub-part
sub_part c = omega (arith, legal-facts _ (st c).requires.0)

mul-part-2 : tie.Need-overflow_mul-part-2
mul-part-2 c =
    let s = st c in omega (arith, part-most (α s.args.sizes) s.args.capacity s.requires.1 (α-most _ (legal-facts _ s.requires.0)))

add-m : tie.Need-overflow_add-m
add-m c = omega (arith, legal-facts _ (st_2 c).requires.0)

fill-powers-requires : tie.Need-fill_powers-requires
fill-powers-requires c κs =
    let s = st_3 c in let f = legal-facts _ s.requires.0 in (s.requires.2, omega (arith, f.enough, f.few), omega (arith, f.enough, f.few))

write-stripes-requires : tie.Need-write_stripes-requires
write-stripes-requires c κs =
    let s = st_4 c in
    let a = s.args in
    let f = legal-facts _ s.requires.0 in (
      s.requires.0,
      search rules,
      part-most (α a.sizes) a.capacity s.requires.1 (α-most _ f),
      omega (arith, s.requires.1, s.requires.4),
      mul-le-mul_right (α a.sizes) s.requires.4,
      refl,
      refl,
      s.requires.5,
    )

returns : tie.Need-returns
returns c =
    let s = st_5 c in
    let a = s.args in
    let z = a.sizes in
    let xs = a.points.now in
    let t = powers-tabled xs _ _ (z.d + z.r) s.requires.2 (fill-powers c).fill_powers.ensures in
    shares-put (record_of z [] a.capacity true 0 []) z xs a.file.now a.area.now _ a.count s.requires.3 ((write-stripes-at-slice-known2 c).write_stripes.ensures xs s.requires.2 t)

pub write_shares_spec : {M : Type 1} → statement M
write_shares_spec =
    tie.close
    (tie.spec
    mul-part
    add-part
    sub_part
    mul-part-2
    add-m
    (λ c. search rules)
    fill-powers-requires
    (λ c. search rules)
    (λ c. search rules)
    (λ c. search rules)
    write-stripes-requires
    (λ c. search rules)
    returns)
