-- `decode_stripe::decode_stripe` meets its contract: the stripe by sums of rows is the decoded stripe.
-- Assumes nothing.
use mathlib.Core.Path.{◌≡◌, ap, ◌∙◌}
use mathlib.Core.List.{List}
use Prim.Native.Nat.{ℕ, ◌≤◌, ◌<◌, ◌-◌, ◌+◌, ◌*◌}
use native.Mathlib.Omega.{arith}
use borrow.Author.Rules.{rules}
use lib.ListN.{length}
use Rattle.lists.specs.Lists.{Bytes}
use Rattle.lists.proofs.Alls.{all_of}
use Rattle.sizes.proofs.Legal.{Legal, legal-facts}
use Rattle.mbcr.specs.Share.{points}
use Rattle.mbcr.proofs.Points.{boards-of}
use Rattle.decode_laws.specs.Steps.{held_at, seed_rows, stripe_by}
use Rattle.decode_laws.proofs.Held.{length-held, held_bytes}
use Rattle.decode_laws.proofs.Stripe.{stripe-by}
use Rattle.decode_stripe.proofs.Made.{part-long, first_rows, rows-still, length-seed-rows}
use Rattle.decode_stripe.proofs.decode_stripe.Statement.{statement}
use Rattle.decode_stripe.proofs.decode_stripe.Tie as tie

-- the sizes are legal
facts : (c : tie.Start) → Legal c.args.sizes
facts c = legal-facts _ c.requires.0.sized

-- the bytes are bytes
bytes : (c : tie.After-shared_slice_known-5-1) → Bytes c.args.bytes.now
bytes c = all_of (λ b. b < 256) 0 c.args.bytes.now (λ i h. omega (arith, c.shared_slice_known-5-1.given i))

-- the coefficients of f and g
abbrev f-made : tie.After-coefficients → List ℕ
f-made c = c.coefficients.new.cf

abbrev g-made : tie.After-coefficients → List ℕ
g-made c = c.coefficients.new.tp

few-rows : (c : tie.Start) → c.args.sizes.k * 32 ≤ length c.args.rows.now
few-rows c = omega (arith, facts c, c.requires.6.all-rows)

f-long : (c : tie.After-coefficients) → length (f-made c) ≡ c.args.sizes.k * 32
f-long c =
    c.coefficients.auto.cf
    ∙ part-long (c.args.sizes.k * 32) c.args.rows.now (few-rows c.before.before.before.before.before.before.before.before.before.before.before.before.before.before.before.before.before.before.before.before.before.before.before.before.before.before)

g-long : (c : tie.After-coefficients) → length (g-made c) ≡ (c.args.sizes.d - c.args.sizes.k) * c.args.sizes.k
g-long c = c.coefficients.auto.tp ∙ c.requires.6.g-tops

mul-q : tie.Need-overflow_mul-q
mul-q c = omega (arith, facts c.before.before.before.before.before.before.before.before.before.before.before.before.before.before.before.before.before.before.before)

part-coefficients-end : tie.Need-slice_bounds-coefficients-end
part-coefficients-end c = few-rows c.before.before.before.before.before.before.before.before.before.before.before.before.before.before.before.before.before.before.before.before.before.before.before

coefficients-requires : tie.Need-coefficients-requires
coefficients-requires c κs =
    let p = c.requires in
    let t = p.5 in
    let w = p.6 in
    let rows = part-long (c.args.sizes.k * 32) c.args.rows.now (few-rows c.before.before.before.before.before.before.before.before.before.before.before.before.before.before.before.before.before.before.before.before.before.before.before.before.before) in (
      p.0.sized,
      p.0.distinct,
      p.0.counted,
      p.0.known,
      p.1.counted,
      p.1.known,
      p.1.unlike,
      p.2,
      p.3,
      p.4,
      t.f-factors,
      t.g-factors,
      t.units-long,
      t.units,
      t.tops,
      w.f-rows,
      w.g-rows,
      w.f-values,
      w.g-values,
      rows,
      w.g-tops,
    )

stripe-of-requires : tie.Need-stripe_of-requires
stripe-of-requires c κs =
    let z = c.args.sizes in
    let long = rows-still z.k z.d c.args.rows.now (f-made c.before.before.before.before.before.before.before.before.before.before.before.before.before.before.before) (facts c.before.before.before.before.before.before.before.before.before.before.before.before.before.before.before.before.before.before.before.before.before.before.before.before.before.before.before.before.before.before.before.before.before.before.before.before.before.before.before.before.before).read-helpers c.requires.6.all-rows (f-long c.before.before.before.before.before.before.before.before.before.before.before.before.before.before.before) in
    (c.requires.0.sized, c.requires.5.seeds-long, g-long c.before.before.before.before.before.before.before.before.before.before.before.before.before.before.before, long, c.requires.6.all-columns, c.requires.7)

same_length : tie.Need-shape_of-fs
same_length c = c.fs-1.given

same-length-2 : tie.Need-shape_of-gs
same-length-2 c = c.gs-1.given

same-length-3 : tie.Need-shape_of-vf
same-length-3 c = c.vf-1.given

same-length-4 : tie.Need-shape_of-vg
same-length-4 c = c.vg-1.given

same-length-5 : tie.Need-shape_of-tp
same-length-5 c = c.tp-1.given

same-length-7 : tie.Need-shape_of-columns
same-length-7 c = c.columns-1.given

same-length-8 : tie.Need-shape_of-u
same-length-8 c = c.u-1.given

returns : tie.Need-returns
returns c =
    let a = c.args in
    let z = a.sizes in
    let f = facts c.before.before.before.before.before.before.before.before.before.before.before.before.before.before.before.before.before.before.before.before.before.before.before.before.before.before.before.before.before.before.before.before.before.before.before.before.before.before.before.before.before.before.before.before.before.before.before.before in
    let xs = a.points.now in
    let bs = a.boards.now in
    let e = seed_rows z.d (points xs bs) in
    let b = bytes c.before.before.before.before.before.before.before.before.before.before.before.before.before.before.before.before.before.before.before.before.before.before.before.before.before.before.before.before.before.before.before.before.before.before.before.before.before.before.before.before.before.before.before in
    c.stripe_of.ensures e (omega (arith, length-seed-rows z.d (points xs bs))) c.requires.5.seeds
    ∙ ap (λ (l : List ℕ). stripe_by z.k z.d (z.d + z.r) e l (g-made c.before.before.before.before.before.before.before.before.before.before.before.before.before.before.before.before.before.before.before.before.before.before)) (first_rows z.k a.rows.now (f-made c.before.before.before.before.before.before.before.before.before.before.before.before.before.before.before.before.before.before.before.before.before.before) (f-long c.before.before.before.before.before.before.before.before.before.before.before.before.before.before.before.before.before.before.before.before.before.before) ∙ c.coefficients.ensures.0)
    ∙ stripe-by z xs f c.requires.0.distinct bs (boards-of z bs c.requires.0.known c.requires.0.unlike) c.requires.0.counted (held_at z a.starts.now a.bytes.now a.s)
    (λ t h. length-held z f a.starts.now a.bytes.now a.s c.requires.3 t (omega (arith, c.requires.2)))
    (λ t h. held_bytes z a.starts.now a.bytes.now a.s t b) (g-made c.before.before.before.before.before.before.before.before.before.before.before.before.before.before.before.before.before.before.before.before.before.before) c.coefficients.ensures.1

pub decode_stripe_spec : {M : Type 1} → statement M
decode_stripe_spec =
    tie.close
    (tie.spec
    mul-q
    (λ c. search rules)
    (λ c. search rules)
    part-coefficients-end
    coefficients-requires
    stripe-of-requires
    same_length
    same-length-2
    same-length-3
    same-length-4
    same-length-5
    (λ c. search rules)
    same-length-7
    same-length-8
    returns)
