-- `step_share::finish_stripe` meets its contract: the callees' contracts, put together.
-- Assumes nothing.
use mathlib.Core.Path.{◌≡◌, ap}
use Prim.Native.Nat.{ℕ, ◌+◌, ◌*◌, ◌-◌}
use native.Mathlib.Nat.{sub-zero}
use lib.ListN.{length, take, drop, length-take, length-drop}
use lib.Seq.{take_all}
use Rattle.sizes.proofs.Legal.{Legal, legal-facts}
use Rattle.step_share.proofs.Stripes.{finished-step}
use borrow.Author.Rules.{rules}
use native.Mathlib.Omega.{arith}
use Rattle.step_share.proofs.finish_stripe.Statement.{statement}
use Rattle.step_share.proofs.finish_stripe.Tie as tie

-- places in the code
abbrev start-of-struct_known-1 : tie.After-struct_known-1 → tie.Start
start-of-struct_known-1 c = c.before.before.before.before.before.before.before

abbrev start-of-row_sums-arg-2-1 : tie.After-row_sums-arg-2-1 → tie.Start
start-of-row_sums-arg-2-1 c = start-of-struct_known-1 c.before.before

abbrev start-of-finish-arg-4-1 : tie.After-finish-arg-4-1 → tie.Start
start-of-finish-arg-4-1 c = start-of-row_sums-arg-2-1 c.before.before.before.before.before.before.before

abbrev start-of-slice_known-8-1 : tie.After-slice_known-8-1 → tie.Start
start-of-slice_known-8-1 c = start-of-finish-arg-4-1 c.before.before.before.before.before.before.before

facts : (c : tie.Start) → Legal c.args.sizes
facts c = legal-facts _ c.requires.0

row-sums-requires : tie.Need-row_sums-requires
row-sums-requires c κs =
    let f = facts (start-of-row_sums-arg-2-1 c) in
    let p = c.requires in
    let a = c.args in
    let r : length (take (a.sizes.d * 32 - 0) (drop 0 a.rows.now)) ≡ a.sizes.d * 32 = simp length-take (omega (arith, p.2)) in
    (omega (arith, r, p.3), omega (arith, p.3, f.enough, f.few), omega (arith, p.6, p.7))

finish-requires : tie.Need-finish-requires
finish-requires c κs =
    let f = facts (start-of-finish-arg-4-1 c) in
    let p = c.requires in
    let a = c.args in
    let g = c.g-1.given in
    let r : length (take (length a.rows.now - a.sizes.d * 32) (drop (a.sizes.d * 32) a.rows.now)) ≡ (a.sizes.d + a.sizes.r) * 32 =
    simp (length-take, length-drop) (omega (arith, p.2)) in (
      p.1,
      f.few,
      omega (arith, p.4, f.some-fresh),
      omega (arith, p.4, f.enough, f.few),
      omega (arith, r, p.4),
      omega (arith, g, p.5, p.7),
      p.5,
      p.6,
      omega (arith, p.4, p.8, f.some_read, f.read-helpers),
    )

returns : tie.Need-returns
returns c =
    let f = facts (start-of-slice_known-8-1 c) in
    let p = c.requires in
    let a = c.args in
    let z = a.sizes in
    let m : ℕ = z.d * 32 in
    finished-step z a.i (length a.f.now) (length a.g.now) _ a.rows.now a.firsts.now (take (length a.got.now - 1) a.got.now) _ _ _ _
    c.finish.ensures c.row_sums.ensures p.7
    (ap (λ (k : ℕ). take k a.rows.now) (sub-zero m)) (take_all (length a.rows.now - m) (drop m a.rows.now) (simp length-drop (omega arith)))
    (omega (arith, p.4, p.8, f.some_read, f.read-helpers, f.some-fresh))

pub finish_stripe_spec : {M : Type 1} → statement M
finish_stripe_spec =
    tie.close
    (tie.spec
    (λ c. let f = facts (start-of-struct_known-1 c) in omega (arith, f.enough, f.few))
    (λ c. search rules)
    (λ c. search rules)
    (λ c. search rules)
    row-sums-requires
    (λ c. search rules)
    (λ c. search rules)
    (λ c. search rules)
    finish-requires
    (λ c. search rules)
    (λ c. search rules)
    (λ c. search rules)
    (λ c. search rules)
    returns)
