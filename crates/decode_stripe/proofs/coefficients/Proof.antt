-- `decode_stripe::coefficients` meets its contract: the callees' contracts, put together.
-- Assumes nothing.
use mathlib.Core.Path.{◌≡◌, sym, ap, ap₂, ◌∙◌}
use mathlib.Core.List.{List}
use Prim.Native.Nat.{ℕ, ◌≤◌, ◌<◌, ◌-◌, ◌+◌, ◌*◌}
use native.Mathlib.Nat.{sub-zero}
use native.Mathlib.Omega.{arith}
use borrow.Author.Rules.{rules}
use lib.ListN.{length, get_or, take, length-take}
use Rattle.lists.specs.Tests.{below}
use Rattle.lists.specs.Lists.{All, Bytes, join, fit}
use Rattle.lists.proofs.Alls.{all_of}
use Rattle.lists.proofs.Boards.{below_all, all-below}
use Rattle.sizes.proofs.Legal.{Legal, legal-facts}
use Rattle.mbcr.specs.Share.{points}
use Rattle.mbcr.specs.Rebuild.{own_f}
use Rattle.mbcr.proofs.Points.{Boards, boards-of, length-points}
use Rattle.decode_laws.specs.Steps.{held_at, unit_rows, by_rows}
use Rattle.decode_laws.proofs.Held.{f-long, g-long, length-values, length-factor-rows, at-few, placed-part, f-coefs}
use Rattle.decode_stripe.proofs.Made.{first-boards, length-units, length-tops, square-few, values-long, tops-part, part-long}
use Rattle.decode_stripe.proofs.coefficients.Statement.{statement}
use Rattle.decode_stripe.proofs.coefficients.Tie as tie

-- the sizes are legal
facts : (c : tie.Start) → Legal c.args.sizes
facts c = legal-facts _ c.requires.0

-- the boards are known
known : (c : tie.Start) → All (λ i. i < c.args.sizes.n) c.args.boards.now
known c = below_all c.args.sizes.n c.args.boards.now c.requires.3

-- so are those at which values are taken
all-targets : (c : tie.Start) → Boards c.args.sizes c.args.targets.now
all-targets c = boards-of c.args.sizes c.args.targets.now c.requires.5 c.requires.6

few-targets : (c : tie.Start) → Boards c.args.sizes (take c.args.sizes.d c.args.targets.now)
few-targets c = first-boards c.args.sizes c.args.sizes.d c.args.targets.now (all-targets c)

length-few : (c : tie.Start) → length (take c.args.sizes.d c.args.targets.now) ≡ c.args.sizes.d
length-few c = simp length-take (omega (arith, c.requires.4))

-- the bytes are bytes
bytes : (c : tie.After-shared_slice_known-5-1) → Bytes c.args.bytes.now
bytes c = all_of (λ b. b < 256) 0 c.args.bytes.now (λ i h. omega (arith, c.shared_slice_known-5-1.given i))

-- stripe s starts not too far behind, and the values of g are few
few : (c : tie.Start) → let z = c.args.sizes in c.args.s * (z.d + z.r + (z.d - 1)) ≤ 253952
few c = at-few c.args.sizes (facts c) c.args.s c.requires.9

square : (c : tie.Start) → let z = c.args.sizes in z.k * z.d ≤ 961
square c = square-few c.args.sizes (facts c)

sub_at : tie.Need-overflow_sub-at
sub_at c = omega (arith, facts c.before.before.before.before.before.before.before.before.before.before.before.before.before.before.before.before)

mul_at : tie.Need-overflow_mul-at
mul_at c = omega (arith, few c.before.before.before.before.before.before.before.before.before.before.before.before.before.before.before.before)

mul-q : tie.Need-overflow_mul-q
mul-q c = omega (arith, square c.before.before.before.before.before.before.before.before.before.before.before.before.before.before.before.before)

whole-vectors-requires : tie.Need-whole_vectors-m-requires
whole-vectors-requires c κs = omega (arith, facts c.before.before.before.before.before.before.before.before.before.before.before.before.before.before.before.before)

whole-vectors-requires-2 : tie.Need-whole_vectors-p-requires
whole-vectors-requires-2 c κs = omega (arith, facts c.before.before.before.before.before.before.before.before.before.before.before.before.before.before.before.before.before)

rows-of-requires : tie.Need-rows_of-requires
rows-of-requires c κs =
    let f = facts c.before.before.before.before.before.before.before.before.before.before.before.before.before.before.before.before.before.before.before.before in (
      omega (arith, f),
      omega (arith, f),
      omega (arith, f),
      omega (arith, f),
      omega (arith, f, c.requires.7),
      placed-part c.args.sizes f c.args.starts.now c.args.bytes.now c.args.s c.requires.8,
      c.requires.15 ∙ ap (λ (m : ℕ). m * 32) (sym c.requires.7),
      c.requires.16 ∙ ap (λ (m : ℕ). m * 32) (sym c.requires.7),
    )

part-values-end : tie.Need-slice_bounds-values-end
part-values-end c = omega (arith, c.requires.4)

part-values-end-2 : tie.Need-slice_bounds-values-end-2
part-values-end-2 c = omega (arith, square c.before.before.before.before.before.before.before.before.before.before.before.before.before.before.before.before.before.before.before.before.before.before.before.before.before.before, c.requires.18)

values-requires : tie.Need-values-requires
values-requires c κs =
    let z = c.args.sizes in
    let f = facts c.before.before.before.before.before.before.before.before.before.before.before.before.before.before.before.before.before.before.before.before.before.before.before.before.before.before.before in
    let lb = c.requires.2 in
    let ld : length (take (z.d - 0) c.args.targets.now) ≡ z.d = ap (λ (m : ℕ). length (take m c.args.targets.now)) (sub-zero z.d) ∙ length-few c.before.before.before.before.before.before.before.before.before.before.before.before.before.before.before.before.before.before.before.before.before.before.before.before.before.before.before in (
      omega (arith, f),
      omega (arith, f),
      c.whole_vectors-p.ensures.1,
      omega (arith, f, lb),
      c.requires.3,
      omega (arith, f, ld),
      ap (λ (m : ℕ). below z.n (take m c.args.targets.now)) (sub-zero z.d) ∙ all-below z.n (take z.d c.args.targets.now) (few-targets c.before.before.before.before.before.before.before.before.before.before.before.before.before.before.before.before.before.before.before.before.before.before.before.before.before.before.before).known,
      omega (arith, ap length c.requires.11, length-factor-rows z c.args.points.now z.d c.args.boards.now),
      g-long c.args.starts.now c.args.bytes.now (z.d + z.r) (z.d + z.r + (z.d - 1)) (c.args.s * (z.d + z.r + (z.d - 1))) _ c.rows_of.ensures.1
          ∙ ap (λ (m : ℕ). m * 32) (c.requires.7 ∙ sym lb),
      part-long (z.k * z.d) c.args.vg.now (omega (arith, square c.before.before.before.before.before.before.before.before.before.before.before.before.before.before.before.before.before.before.before.before.before.before.before.before.before.before.before, c.requires.18)) ∙ ap₂ ◌*◌ (sym lb) (sym ld),
    )

values-requires-2 : tie.Need-values-requires-2
values-requires-2 c κs =
    let z = c.args.sizes in
    let f = facts c.before.before.before.before.before.before.before.before.before.before.before.before.before.before.before.before.before.before.before.before.before.before.before.before.before.before.before.before.before.before.before in
    let lb = c.requires.2 in (
      omega (arith, f),
      omega (arith, f),
      c.whole_vectors-m.ensures.1,
      omega (arith, f, lb),
      c.requires.3,
      omega (arith, f, c.requires.4),
      c.requires.5,
      omega (arith, ap length c.requires.10, length-factor-rows z c.args.points.now (z.d + z.r) c.args.boards.now),
      f-long c.args.starts.now c.args.bytes.now (z.d + z.r) (z.d + z.r + (z.d - 1)) (c.args.s * (z.d + z.r + (z.d - 1))) _ c.rows_of.ensures.0
          ∙ ap (λ (m : ℕ). m * 32) (c.requires.7 ∙ sym lb),
      c.requires.17 ∙ ap₂ ◌*◌ (sym lb) (sym c.requires.4),
    )

sub-tops : tie.Need-overflow_sub-d
sub-tops c = omega (arith, facts c.before.before.before.before.before.before.before.before.before.before.before.before.before.before.before.before.before.before.before.before.before.before.before.before.before.before.before.before.before.before.before.before.before.before)

tops-requires : tie.Need-tops-requires
tops-requires c κs =
    let z = c.args.sizes in
    let f = facts c.before.before.before.before.before.before.before.before.before.before.before.before.before.before.before.before.before.before.before.before.before.before.before.before.before.before.before.before.before.before.before.before.before.before.before in
    let ld : length (take (z.d - 0) c.args.targets.now) ≡ z.d = ap (λ (m : ℕ). length (take m c.args.targets.now)) (sub-zero z.d) ∙ length-few c.before.before.before.before.before.before.before.before.before.before.before.before.before.before.before.before.before.before.before.before.before.before.before.before.before.before.before.before.before.before.before.before.before.before.before in
    let lp : length (points c.args.points.now (take z.d c.args.targets.now)) ≡ z.d = length-points c.args.points.now (take z.d c.args.targets.now) ∙ length-few c.before.before.before.before.before.before.before.before.before.before.before.before.before.before.before.before.before.before.before.before.before.before.before.before.before.before.before.before.before.before.before.before.before.before.before in
    let lt = ap length c.requires.14 ∙ length-tops z.k (points c.args.points.now (take z.d c.args.targets.now)) ∙ ap (λ (m : ℕ). (m - z.k) * 32) lp in
    let v = c.values.ensures in
    let lg = values-long (z.k * z.d) c.args.vg.now _ _ c.requires.18 (omega (arith, square c.before.before.before.before.before.before.before.before.before.before.before.before.before.before.before.before.before.before.before.before.before.before.before.before.before.before.before.before.before.before.before.before.before.before.before)) v (length-values _ _ _ _ _ _ _ ∙ ap₂ ◌*◌ c.requires.2 ld) in
    (omega (arith, f), omega (arith, f), omega (arith, f), c.whole_vectors-p.ensures.1, omega (arith, lt), omega (arith, square c.before.before.before.before.before.before.before.before.before.before.before.before.before.before.before.before.before.before.before.before.before.before.before.before.before.before.before.before.before.before.before.before.before.before.before, lg), c.requires.20)

by-rows-requires : tie.Need-by_rows-requires
by-rows-requires c κs =
    let f = facts c.before.before.before.before.before.before.before.before.before.before.before.before.before.before.before.before.before.before.before.before.before.before.before.before.before.before.before.before.before.before.before.before.before.before.before.before.before.before.before in
    let l = ap length c.values-2.ensures ∙ length-values _ _ _ _ _ _ _ ∙ ap₂ ◌*◌ c.requires.2 c.requires.4 in
    (omega (arith, f), omega (arith, f), omega (arith, l), omega (arith, c.requires.12), c.requires.19)

same_length : tie.Need-shape_of-fs
same_length c = c.fs-1.given

same-length-2 : tie.Need-shape_of-gs
same-length-2 c = c.gs-1.given

same-length-3 : tie.Need-shape_of-vf
same-length-3 c = c.vf-1.given

same-length-4 : tie.Need-shape_of-vg
same-length-4 c = c.vg-1.given.1

same-length-5 : tie.Need-shape_of-cf
same-length-5 c = c.cf-1.given

same-length-6 : tie.Need-shape_of-tp
same-length-6 c = c.tp-1.given

returns : tie.Need-returns
returns c =
    let a = c.args in
    let z = a.sizes in
    let xs = a.points.now in
    let lb = c.requires.2 in
    let b = bytes c.before.before.before.before.before.before.before.before.before.before.before.before.before.before.before.before.before.before.before.before.before.before.before.before.before.before.before.before.before.before.before.before.before.before.before.before.before in
    let w = c.whole_vectors-m in
    let w2 = c.whole_vectors-p in
    let rows = c.rows_of.ensures in
    let C : List ℕ = a.targets.now in (
      c.by_rows.ensures (unit_rows (points xs C)) (omega (arith, length-units (points xs C), length-points xs C, c.requires.4)) c.requires.13
          ∙ ap₂ (λ (q : ℕ) (l : List ℕ). by_rows q (z.d + z.r) l (unit_rows (points xs C))) (sym lb) c.values-2.ensures
          ∙ f-coefs z xs (facts c.before.before.before.before.before.before.before.before.before.before.before.before.before.before.before.before.before.before.before.before.before.before.before.before.before.before.before.before.before.before.before.before.before.before.before.before.before.before.before.before.before.before) c.requires.1 a.boards.now (known c.before.before.before.before.before.before.before.before.before.before.before.before.before.before.before.before.before.before.before.before.before.before.before.before.before.before.before.before.before.before.before.before.before.before.before.before.before.before.before.before.before.before) lb a.starts.now a.bytes.now c.requires.7 a.s c.requires.8 b a.ff.now _ c.requires.10 rows.0
          w.result w.ensures.0 w.ensures.1 C (all-targets c.before.before.before.before.before.before.before.before.before.before.before.before.before.before.before.before.before.before.before.before.before.before.before.before.before.before.before.before.before.before.before.before.before.before.before.before.before.before.before.before.before.before) c.requires.4
          ∙ ap (λ (q : ℕ). join q (λ c. fit 32 (own_f z xs (get_or a.boards.now c 0) (held_at z a.starts.now a.bytes.now a.s c)))) lb,
      tops-part z xs (facts c.before.before.before.before.before.before.before.before.before.before.before.before.before.before.before.before.before.before.before.before.before.before.before.before.before.before.before.before.before.before.before.before.before.before.before.before.before.before.before.before.before.before) c.requires.1 a.boards.now (known c.before.before.before.before.before.before.before.before.before.before.before.before.before.before.before.before.before.before.before.before.before.before.before.before.before.before.before.before.before.before.before.before.before.before.before.before.before.before.before.before.before.before) lb a.starts.now a.bytes.now c.requires.7 a.s c.requires.8 b a.gf.now _ c.requires.11 rows.1
          w2.result w2.ensures.0 w2.ensures.1 C (few-targets c.before.before.before.before.before.before.before.before.before.before.before.before.before.before.before.before.before.before.before.before.before.before.before.before.before.before.before.before.before.before.before.before.before.before.before.before.before.before.before.before.before.before) (length-few c.before.before.before.before.before.before.before.before.before.before.before.before.before.before.before.before.before.before.before.before.before.before.before.before.before.before.before.before.before.before.before.before.before.before.before.before.before.before.before.before.before.before)
          (z.k * z.d) a.tr.now a.vg.now _ _ c.requires.14 c.values.ensures c.tops.ensures,
    )

pub coefficients_spec : {M : Type 1} → statement M
coefficients_spec =
    tie.close
    (tie.spec
    (λ c. search rules)
    sub_at
    (λ c. search rules)
    mul_at
    mul-q
    whole-vectors-requires
    whole-vectors-requires-2
    rows-of-requires
    (λ c. search rules)
    (λ c. search rules)
    part-values-end
    (λ c. search rules)
    (λ c. search rules)
    part-values-end-2
    values-requires
    values-requires-2
    sub-tops
    tops-requires
    by-rows-requires
    same_length
    same-length-2
    same-length-3
    same-length-4
    same-length-5
    same-length-6
    returns)
