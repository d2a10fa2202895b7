-- `decode_pairs::stripe_meets` meets its contract: the callees' contracts, put together.
-- Assumes nothing.
use mathlib.Core.Path.{sym, ap, ◌∙◌}
use Prim.Native.Nat.{ℕ, ◌≤◌, ◌<◌, ◌-◌, ◌+◌, ◌*◌}
use native.Mathlib.Omega.{arith}
use borrow.Author.Rules.{rules}
use lib.ListN.{length}
use Rattle.lists.specs.Lists.{All, Bytes}
use Rattle.lists.proofs.Alls.{all_of}
use Rattle.lists.proofs.Boards.{below_all}
use Rattle.sizes.proofs.Legal.{Legal, legal-facts}
use Rattle.decode_laws.proofs.Held.{f-long, g-long, length-factor-rows, at-few, placed-part, pairs_made}
use Rattle.decode_pairs.proofs.stripe_meets.Statement.{statement}
use Rattle.decode_pairs.proofs.stripe_meets.Tie as tie

-- the sizes are legal
facts : (c : tie.Start) → Legal c.args.sizes
facts c = legal-facts _ c.requires.0

-- the boards are known
known : (c : tie.Start) → All (λ i. i < c.args.sizes.n) c.args.boards.now
known c = below_all c.args.sizes.n c.args.boards.now c.requires.3

-- the bytes are bytes
bytes : (c : tie.After-shared_slice_known-4-1) → Bytes c.args.bytes.now
bytes c = all_of (λ b. b < 256) 0 c.args.bytes.now (λ i h. omega (arith, c.shared_slice_known-4-1.given i))

-- stripe s starts not too far behind
few : (c : tie.Start) → let z = c.args.sizes in c.args.s * (z.d + z.r + (z.d - 1)) ≤ 253952
few c = at-few c.args.sizes (facts c) c.args.s c.requires.6

add-w : tie.Need-overflow_add-w
add-w c = omega (arith, facts c.before.before.before.before.before.before.before.before.before)

sub_at : tie.Need-overflow_sub-at
sub_at c = omega (arith, facts c.before.before.before.before.before.before.before.before.before)

add_at : tie.Need-overflow_add-at
add_at c = omega (arith, facts c.before.before.before.before.before.before.before.before.before)

mul_at : tie.Need-overflow_mul-at
mul_at c = omega (arith, few c.before.before.before.before.before.before.before.before.before)

whole-vectors-requires : tie.Need-whole_vectors-p-requires
whole-vectors-requires c κs = omega (arith, facts c.before.before.before.before.before.before.before.before.before)

whole-vectors-requires-2 : tie.Need-whole_vectors-m-requires
whole-vectors-requires-2 c κs = omega (arith, facts c.before.before.before.before.before.before.before.before.before.before)

rows-of-requires : tie.Need-rows_of-requires
rows-of-requires c κs =
    let f = facts c.before.before.before.before.before.before.before.before.before.before.before.before.before in (
      omega (arith, f),
      omega (arith, f),
      omega (arith, f),
      omega (arith, f),
      omega (arith, f),
      placed-part c.args.sizes f c.args.starts.now c.args.bytes.now c.args.s
          c.requires.5,
      c.requires.9 ∙ ap (λ (m : ℕ). m * 32) (sym c.requires.4),
      c.requires.10 ∙ ap (λ (m : ℕ). m * 32) (sym c.requires.4),
    )

boards-meet-requires : tie.Need-boards_meet-requires
boards-meet-requires c κs =
    let z = c.args.sizes in
    let f = facts c.before.before.before.before.before.before.before.before.before.before.before.before.before.before.before.before.before.before in
    let lb = c.requires.2 in
    let a : ℕ = z.d + z.r + (z.d - 1) in (
      omega (arith, f),
      omega (arith, f),
      omega (arith, f),
      c.whole_vectors-p.ensures.1,
      c.whole_vectors-m.ensures.1,
      omega (arith, f),
      c.requires.3,
      omega (arith, ap length c.requires.7, length-factor-rows z c.args.points.now (z.d + z.r) c.args.boards.now),
      omega (arith, ap length c.requires.8, length-factor-rows z c.args.points.now z.d c.args.boards.now),
      f-long c.args.starts.now c.args.bytes.now (z.d + z.r) a (c.args.s * a) _ c.rows_of.ensures.0 ∙ ap (λ (m : ℕ). m * 32) (c.requires.4 ∙ sym lb),
      g-long c.args.starts.now c.args.bytes.now (z.d + z.r) a (c.args.s * a) _ c.rows_of.ensures.1 ∙ ap (λ (m : ℕ). m * 32) (c.requires.4 ∙ sym lb),
    )

returns : tie.Need-returns
returns c =
    let p = c.whole_vectors-p in
    let m = c.whole_vectors-m in
    let a = c.args in
    let z = a.sizes in
    let b = bytes c.before.before.before.before.before.before.before.before.before.before.before.before.before.before.before in
    c.boards_meet.ensures
    ∙ pairs_made z a.points.now (facts c.before.before.before.before.before.before.before.before.before.before.before.before.before.before.before.before.before.before.before) c.requires.1 a.boards.now (known c.before.before.before.before.before.before.before.before.before.before.before.before.before.before.before.before.before.before.before) c.requires.2 a.starts.now a.bytes.now c.requires.4 a.s c.requires.5 b a.ff.now a.gf.now _ _
    c.requires.7 c.requires.8 c.rows_of.ensures.0 c.rows_of.ensures.1 p.result m.result p.ensures.0 p.ensures.1 m.ensures.0 m.ensures.1

pub stripe_meets_spec : {M : Type 1} → statement M
stripe_meets_spec =
    tie.close
    (tie.spec
    add-w
    sub_at
    add_at
    mul_at
    whole-vectors-requires
    whole-vectors-requires-2
    rows-of-requires
    boards-meet-requires
    (λ c. search rules)
    (λ c. search rules)
    returns)
