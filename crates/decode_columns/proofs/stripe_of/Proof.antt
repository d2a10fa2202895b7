-- `decode_columns::stripe_of` meets its contract: the callees' contracts, put together.
-- Assumes nothing.
use mathlib.Core.Path.{◌≡◌, sym, ◌∙◌}
use Prim.Native.Nat.{ℕ, ◌-◌, ◌+◌, ◌*◌}
use native.Mathlib.Omega.{arith}
use borrow.Author.Rules.{rules}
use lib.ListN.{length, length-take, length-drop}
use borrow.Rule.Slice.PartMut.{put_mid, same_len_mid}
use Rattle.sizes.proofs.Legal.{Legal, legal-facts, B-parts}
use Rattle.decode_columns.proofs.Made.{stripe-made}
use Rattle.decode_columns.proofs.stripe_of.Statement.{statement}
use Rattle.decode_columns.proofs.stripe_of.Tie as tie

-- the sizes are legal
facts : (c : tie.Start) → Legal c.args.sizes
facts c = legal-facts _ c.requires.0

-- the stripe's three parts
three : (c : tie.Start) → let z = c.args.sizes in z.k * z.k + z.k * (z.d + z.r - z.k) + (z.d - z.k) * z.k ≡ length c.args.u.now
three c = B-parts c.args.sizes (facts c) ∙ sym c.requires.5

-- rows, columns and stripe are as long as before
rows_same : (c : tie.After-by_rows) → let z = c.args.sizes in
    length (put_mid (z.k * 32) (z.d * 32 - z.k * 32) c.args.rows.now c.by_rows.new.out) ≡ z.d * 32
rows_same c =
    let z = c.args.sizes in
    same_len_mid {X = ℕ} (z.k * 32) (z.d * 32 - z.k * 32) c.args.rows.now c.by_rows.new.out c.by_rows.auto.out ∙ c.requires.3

columns-same : (c : tie.After-by_columns) → length c.by_columns.new.out ≡ (c.args.sizes.d + c.args.sizes.r) * 32
columns-same c = c.by_columns.auto.out ∙ c.requires.4

first-same : (c : tie.After-turned) → let z = c.args.sizes in
    length (put_mid 0 (z.k * z.k - 0) c.args.u.now c.turned.new.out) ≡ length c.args.u.now
first-same c =
    let z = c.args.sizes in
    same_len_mid {X = ℕ} 0 (z.k * z.k - 0) c.args.u.now c.turned.new.out c.turned.auto.out

second-same : (c : tie.After-turned-2) → let z = c.args.sizes in let a = z.k * z.k in
    length (put_mid a (a + z.k * (z.d + z.r - z.k) - a) (put_mid 0 (a - 0) c.args.u.now c.turned.new.out) c.turned-2.new.out)
    ≡ length c.args.u.now
second-same c =
    let z = c.args.sizes in
    let a : ℕ = z.k * z.k in
    same_len_mid {X = ℕ} a (a + z.k * (z.d + z.r - z.k) - a) (put_mid 0 (a - 0) c.args.u.now c.turned.new.out) c.turned-2.new.out
    c.turned-2.auto.out ∙ first-same c.before.before.before.before

mul-from : tie.Need-overflow_mul-from
mul-from c = omega (arith, facts c.before.before.before.before.before.before)

mul-a : tie.Need-overflow_mul-a
mul-a c = omega (arith, three c.before.before.before.before.before.before)

sub-b : tie.Need-overflow_sub-b
sub-b c = omega (arith, facts c.before.before.before.before.before.before)

mul-b : tie.Need-overflow_mul-b
mul-b c = omega (arith, three c.before.before.before.before.before.before)

add-b : tie.Need-overflow_add-b
add-b c = omega (arith, three c.before.before.before.before.before.before)

sub-by-rows : tie.Need-overflow_sub-d
sub-by-rows c = omega (arith, facts c.before.before.before.before.before.before)

sub-by-rows-2 : tie.Need-slice_bounds-by_rows-count
sub-by-rows-2 c = omega (arith, facts c.before.before.before.before.before.before)

part-by-rows-start : tie.Need-slice_bounds-by_rows-start
part-by-rows-start c = omega (arith, facts c.before.before.before.before.before.before)

part-by-rows-end : tie.Need-slice_bounds-by_rows-end
part-by-rows-end c = omega (arith, c.requires.3)

by-rows-requires : tie.Need-by_rows-requires
by-rows-requires c κs =
    let f = facts c.before.before.before.before.before.before.before in
    (omega (arith, f), omega (arith, f), omega (arith, c.requires.2), omega (arith, f, c.requires.1), simp (length-take, length-drop) (omega (arith, f, c.requires.3)))

by-columns-requires : tie.Need-by_columns-requires
by-columns-requires c κs =
    let f = facts c.before.before.before.before.before.before.before.before.before.before.before in
    (omega (arith, f), omega (arith, f), omega (arith, rows_same c.before.before.before), omega (arith, c.requires.1), c.requires.4)

part-turned-end : tie.Need-slice_bounds-turned-end
part-turned-end c = omega (arith, three c.before.before.before.before.before.before.before.before.before.before.before.before.before.before)

turned-requires : tie.Need-turned-requires
turned-requires c κs =
    let f = facts c.before.before.before.before.before.before.before.before.before.before.before.before.before.before.before in
    (omega (arith, f), omega arith, omega (arith, f), omega (arith, f, columns-same c.before.before.before), simp length-take (omega (arith, three c.before.before.before.before.before.before.before.before.before.before.before.before.before.before.before)))

sub-turned-2 : tie.Need-overflow_sub-w
sub-turned-2 c = omega (arith, facts c.before.before.before.before.before.before.before.before.before.before.before.before.before.before.before.before.before.before)

sub-turned-3 : tie.Need-slice_bounds-turned-count-2
sub-turned-3 c = omega arith

part-turned-start-2 : tie.Need-slice_bounds-turned-start-2
part-turned-start-2 c = omega arith

part-turned-end-2 : tie.Need-slice_bounds-turned-end-2
part-turned-end-2 c = omega (arith, three c.before.before.before.before.before.before.before.before.before.before.before.before.before.before.before.before.before.before, first-same c.before.before)

turned-requires-2 : tie.Need-turned-requires-2
turned-requires-2 c κs =
    let f = facts c.before.before.before.before.before.before.before.before.before.before.before.before.before.before.before.before.before.before.before in (
      omega (arith, f),
      omega (arith, f),
      omega (arith, f),
      omega (arith, f, columns-same c.before.before.before.before.before.before.before),
      simp (length-take, length-drop) (omega (arith, three c.before.before.before.before.before.before.before.before.before.before.before.before.before.before.before.before.before.before.before, first-same c.before.before.before)),
    )

sub_parts : tie.Need-overflow_sub-d-2
sub_parts c = omega (arith, facts c.before.before.before.before.before.before.before.before.before.before.before.before.before.before.before.before.before.before.before.before.before.before)

sub-parts-2 : tie.Need-slice_bounds-parts-count
sub-parts-2 c = omega (arith, facts c.before.before.before.before.before.before.before.before.before.before.before.before.before.before.before.before.before.before.before.before.before.before)

part-parts-start : tie.Need-slice_bounds-parts-start
part-parts-start c = omega (arith, facts c.before.before.before.before.before.before.before.before.before.before.before.before.before.before.before.before.before.before.before.before.before.before)

part-parts-end : tie.Need-slice_bounds-parts-end
part-parts-end c = omega (arith, rows_same c.before.before.before.before.before.before.before.before.before.before.before.before.before.before)

sub-parts-3 : tie.Need-slice_bounds-parts-count-2
sub-parts-3 c = omega (arith, three c.before.before.before.before.before.before.before.before.before.before.before.before.before.before.before.before.before.before.before.before.before.before.before)

part-parts-start-2 : tie.Need-slice_bounds-parts-start-2
part-parts-start-2 c = omega (arith, three c.before.before.before.before.before.before.before.before.before.before.before.before.before.before.before.before.before.before.before.before.before.before.before)

part-parts-end-2 : tie.Need-slice_bounds-parts-end-2
part-parts-end-2 c = omega (arith, second-same c.before.before.before)

parts-requires : tie.Need-parts-requires
parts-requires c κs =
    let f = facts c.before.before.before.before.before.before.before.before.before.before.before.before.before.before.before.before.before.before.before.before.before.before.before.before in (
      omega (arith, f),
      omega (arith, f),
      simp (length-take, length-drop) (omega (arith, f, rows_same c.before.before.before.before.before.before.before.before.before.before.before.before.before.before.before.before)),
      simp (length-take, length-drop) (omega (arith, three c.before.before.before.before.before.before.before.before.before.before.before.before.before.before.before.before.before.before.before.before.before.before.before.before, second-same c.before.before.before.before)),
    )

same-length-3 : tie.Need-shape_of-u
same-length-3 c =
    let z = c.args.sizes in
    let a : ℕ = z.k * z.k in
    let b : ℕ = a + z.k * (z.d + z.r - z.k) in
    let u = c.args.u.now in
    same_len_mid {X = ℕ} b (length u - b)
    (put_mid a (b - a) (put_mid 0 (a - 0) u c.turned.new.out) c.turned-2.new.out)
    c.parts.new.out c.parts.auto.out ∙ second-same c.before.before.before.before.before.before.before

returns : tie.Need-returns
returns c e he te =
    let z = c.args.sizes in
    let f = facts c.before.before.before.before.before.before.before.before.before.before.before.before.before.before.before.before.before.before.before.before.before.before.before.before.before.before.before in
    stripe-made z f c.args.rows.now _ e c.args.tp.now _ c.args.u.now _ _ _ c.requires.3 c.requires.5
    (c.by_rows.ensures e (omega (arith, f)) (λ s h. te s (omega (arith, f))))
    (c.by_columns.ensures e he te)
    c.turned.ensures c.turned-2.ensures c.parts.ensures

pub stripe_of_spec : {M : Type 1} → statement M
stripe_of_spec =
    tie.close
    (tie.spec
    (λ c. search rules)
    mul-from
    (λ c. search rules)
    mul-a
    sub-b
    mul-b
    add-b
    sub-by-rows
    sub-by-rows-2
    part-by-rows-start
    part-by-rows-end
    by-rows-requires
    by-columns-requires
    (λ c. search rules)
    (λ c. search rules)
    part-turned-end
    turned-requires
    sub-turned-2
    sub-turned-3
    part-turned-start-2
    part-turned-end-2
    turned-requires-2
    sub_parts
    sub-parts-2
    part-parts-start
    part-parts-end
    sub-parts-3
    part-parts-start-2
    part-parts-end-2
    parts-requires
    (λ c. search rules)
    (λ c. search rules)
    same-length-3
    returns)
