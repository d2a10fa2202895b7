-- `store_write::write_stripe` meets its contract. The callees' contracts, put together.
-- Assumes nothing.
use mathlib.Core.Path.{◌∙◌}
use Prim.Native.Nat.{◌+◌, ◌*◌}
use native.Mathlib.Omega.{arith}
use borrow.Author.Rules.{rules}
use Rattle.sizes.proofs.Legal.{legal-facts}
use Rattle.sizes.specs.Sizing.{α}
use Rattle.encode_values.proofs.Sums.{tabled-fewer}
use Rattle.store_write.proofs.Places.{boards-kept}
use Rattle.store_write.proofs.write_stripe.Statement.{statement}
use Rattle.store_write.proofs.write_stripe.Tie as tie

-- places in the code
abbrev st : tie.After-struct_known-1 → tie.Start
st c = c.before.before.before.before.before.before

abbrev st_2 : tie.After-struct_known-2-1 → tie.Start
st_2 c = st c.before

abbrev rows-at-column-values-arg2 : tie.After-column_values-arg-1 → tie.After-rows-1
rows-at-column-values-arg2 c = c.before.before

abbrev st_3 : tie.After-column_values-arg-1 → tie.Start
st_3 c = st_2 (rows-at-column-values-arg2 c).before.before.before

abbrev values-at-put-boards-arg2 : tie.After-put_boards-arg-1 → tie.After-values-1
values-at-put-boards-arg2 c = c.before.before

abbrev st_4 : tie.After-put_boards-arg-1 → tie.Start
st_4 c = st_3 (values-at-put-boards-arg2 c).before.before

abbrev column-values : tie.After-slice_known-6-1 → tie.After-column_values
column-values c = (values-at-put-boards-arg2 c.before.before.before).before

abbrev stripe-rows : tie.After-slice_known-6-1 → tie.After-stripe_rows
stripe-rows c = (rows-at-column-values-arg2 (column-values c).before).before

abbrev st_5 : tie.After-slice_known-6-1 → tie.Start
st_5 c = st_3 (column-values c).before

mul_at : tie.Need-overflow_mul-at
mul_at c = omega (arith, legal-facts _ (st c).requires.0)

add_at : tie.Need-overflow_add-at
add_at c = omega (arith, legal-facts _ (st_2 c).requires.0)

sub_at : tie.Need-overflow_sub-at
sub_at c = omega (arith, legal-facts _ (st_2 c).requires.0)

mul-at-2 : tie.Need-overflow_mul-at-2
mul-at-2 c = let s = st_2 c in omega (arith, s.requires.2, s.requires.4)

column-values-requires : tie.Need-column_values-requires
column-values-requires c κs =
    let s = st_3 c in
    let f = legal-facts _ s.requires.0 in (
      omega (arith, f.enough, f.few),
      f.few,
      omega (arith, f.enough, f.few, s.requires.1),
      omega (arith, f.some-fresh, f.enough, f.few, s.requires.5, (rows-at-column-values-arg2 c).rows-1.given),
      omega (arith, f.few, s.requires.6),
    )

put-boards-requires : tie.Need-put_boards-requires
put-boards-requires c κs =
    let s = st_4 c in
    let f = legal-facts _ s.requires.0 in
    (s.requires.0, s.requires.2, omega (arith, s.requires.4), omega (arith, f.few, s.requires.6, (values-at-put-boards-arg2 c).values-1.given), s.requires.7)

returns : tie.Need-returns
returns c =
    λ xs lx t.
    let s = st_5 c in
    let a = s.args in
    let z = a.sizes in
    let f = legal-facts _ s.requires.0 in
    c.before.before.put_boards.ensures
    ∙ boards-kept z f xs a.file.now _ _ _ _ a.area.now a.s a.part (a.s * α z) lx ((stripe-rows c).stripe_rows.ensures xs lx t)
    ((column-values c).column_values.ensures xs lx (tabled-fewer xs a.tables.now z.d (z.d + z.r) (omega arith) t))

pub write_stripe_spec : {M : Type 1} → statement M
write_stripe_spec =
    tie.close
    (tie.spec
    mul_at
    add_at
    sub_at
    mul-at-2
    (λ c κs. search rules)
    column-values-requires
    put-boards-requires
    (λ c. search rules)
    (λ c. search rules)
    (λ c. search rules)
    returns)
