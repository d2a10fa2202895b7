-- `encode_values::row_values` meets its contract. The callees' contracts, put together.
-- Assumes nothing.
use Rattle.std.proofs.Common.{◌≡◌, ◌+◌, ◌*◌, ◌-◌, ◌≤◌, true, refl, arith}
use Rattle.sizes.specs.declared.Sizes.{Sizes}
use Rattle.sizes.specs.Sizing.{legal, B}
use Rattle.sizes.proofs.Legal.{Legal, legal-facts, B-parts}
use Rattle.encode_values.proofs.Sums.{run_end, tabled-fewer}
use Rattle.encode_values.proofs.Values.{rows_made}
use Rattle.encode_values.proofs.row_values.Goals as goal

-- the bytes of a and b
small : (z : Sizes) → legal z ≡ true
    → (z.k * z.k ≤ 1024) × (z.k * (z.d + z.r - z.k) ≤ 1024) × (z.k * z.k + z.k * (z.d + z.r - z.k) ≤ B z)
    × (z.k * z.k + z.k * (z.d + z.r - z.k) + (z.d - z.k) * z.k ≡ B z) × Legal z
small z h =
    let f = legal-facts z h in
    let b = B-parts z f in
    let p = run_end 0 z.k z.k (omega (arith, f.some_read)) (omega (arith, f.read-helpers, f.enough, f.few)) (omega (arith, f.read-helpers, f.enough, f.few)) in
    let q = run_end 0 z.k (z.d + z.r - z.k) (omega (arith, f.some_read)) (omega (arith, f.read-helpers, f.enough, f.few)) (omega (arith, f.read-helpers, f.enough, f.few)) in
    (p.1, q.1, omega arith, b, f)

pub overflow_sub-m : goal.overflow_sub-m
overflow_sub-m c = omega (arith, small c.args.sizes c.requires.0)

pub overflow_add-w : goal.overflow_add-w
overflow_add-w c = omega (arith, small c.args.sizes c.requires.0)

pub overflow_mul-low : goal.overflow_mul-low
overflow_mul-low c = omega (arith, small c.args.sizes c.requires.0)

pub overflow_sub-low : goal.overflow_sub-low
overflow_sub-low c = omega (arith, small c.args.sizes c.requires.0)

pub overflow_mul-low-2 : goal.overflow_mul-low-2
overflow_mul-low-2 c = omega (arith, small c.args.sizes c.requires.0)

pub overflow_add-low : goal.overflow_add-low
overflow_add-low c = omega (arith, small c.args.sizes c.requires.0)

pub overflow_mul-at : goal.overflow_mul-at
overflow_mul-at c = omega (arith, small c.args.sizes c.requires.0)

pub upper_values-requires : goal.upper_values-requires
upper_values-requires c = let e = small c.args.sizes c.requires.0 in omega arith

pub slice_bounds-lower_values-count : goal.slice_bounds-lower_values-count
slice_bounds-lower_values-count c = let e = small c.args.sizes c.requires.0 in omega arith

pub slice_bounds-lower_values-start : goal.slice_bounds-lower_values-start
slice_bounds-lower_values-start c = let e = small c.args.sizes c.requires.0 in omega arith

pub slice_bounds-lower_values-count-2 : goal.slice_bounds-lower_values-count-2
slice_bounds-lower_values-count-2 c = let e = small c.args.sizes c.requires.0 in omega arith

pub slice_bounds-lower_values-start-2 : goal.slice_bounds-lower_values-start-2
slice_bounds-lower_values-start-2 c = let e = small c.args.sizes c.requires.0 in omega arith

pub lower_values-requires : goal.lower_values-requires
lower_values-requires c = let e = small c.args.sizes c.requires.0 in omega arith

pub returns : goal.returns
returns c =
    λ xs lx t.
    let a = c.args in
    let z = a.sizes in
    let f = legal-facts z c.requires.0 in
    rows_made z f a.u.now c.requires.2 xs lx a.rows.now _ _ _ c.requires.3 (c.upper_values.ensures xs lx t) refl
    (c.lower_values.ensures xs lx (tabled-fewer xs a.tables.now z.k (z.d + z.r) (omega (arith, f.read-helpers)) t))
