-- `stripe_rows::stripe_rows` meets its contract. The callees' contracts, put together.
-- Assumes nothing.
use mathlib.Core.Path.{◌≡◌, ap, ◌∙◌}
use Prim.Native.Nat.{ℕ, ◌*◌, ◌≤◌}
use native.Mathlib.Omega.{arith}
use lib.ListN.{length}
use borrow.Author.Rules.{rules}
use mathlib.Core.List.{List, ◌++◌}
use lib.ListN.{drop}
use Rattle.sizes.specs.Sizing.{B}
use Rattle.sizes.proofs.Legal.{legal-facts, B-most}
use Rattle.mbcr.proofs.Shape.{length-stripe}
use Rattle.encode_values.specs.Steps.{row_values}
use Rattle.stripe_rows.proofs.Stripe.{stripe-long, stripe-start, cut-stripe, cut_holds}
use Rattle.stripe_rows.proofs.stripe_rows.Statement.{statement}
use Rattle.stripe_rows.proofs.stripe_rows.Tie as tie

-- the length of a stripe, and where stripe s starts
long : (c : tie.After-stripe_len-b) → c.stripe_len-b.result ≡ B c.args.sizes
long c = stripe-long c.args.sizes _ c.requires.0 c.stripe_len-b.ensures

start : (c : tie.After-stripe_len-b) → (c.args.s * c.stripe_len-b.result ≤ 4096 * 992) × (c.stripe_len-b.result ≤ 992)
start c =
    let f = legal-facts _ c.requires.0 in
    (stripe-start c.args.sizes c.args.s c.stripe_len-b.result f (long c) (omega arith), omega (arith, long c, B-most _ f))

mul-from : tie.Need-overflow_mul-from
mul-from c = let e = start c in omega arith

part-coefficients-end : tie.Need-slice_bounds-coefficients-end
part-coefficients-end c = let e = start c in omega arith

pad-requires : tie.Need-pad-requires
pad-requires c κs = let e = start c.before in search rules

part-row-values-end : tie.Need-slice_bounds-row_values-end
part-row-values-end c = cut_holds _ _ _ _ (start c.before.before.before).1 c.pad.ensures

row-values-requires : tie.Need-row_values-requires
row-values-requires c κs =
    let a = c.args in
    let k = long c.before.before.before.before.before in
    let e = cut-stripe a.sizes a.file.now _ _ a.s _ k (start c.before.before.before.before.before).1 c.pad.ensures in
    (c.requires.0, c.requires.1, ap length e ∙ length-stripe a.sizes a.file.now a.s, c.requires.3)

returns : tie.Need-returns
returns c =
    λ xs lx t.
    let a = c.args in
    let e = cut-stripe a.sizes a.file.now _ _ a.s _ (long c.before.before.before.before.before.before.before.before) (start c.before.before.before.before.before.before.before.before).1 c.pad.ensures in
    c.row_values.ensures xs lx t ∙ ap (λ (u : List ℕ). row_values a.sizes xs u ++ drop (a.sizes.d * 32) a.rows.now) e

pub stripe_rows_spec : {M : Type 1} → statement M
stripe_rows_spec =
    tie.close
    (tie.spec
    (λ c κs. search rules)
    mul-from
    (λ c. search rules)
    (λ c. search rules)
    part-coefficients-end
    pad-requires
    (λ c. search rules)
    (λ c. search rules)
    part-row-values-end
    row-values-requires
    (λ c. search rules)
    returns)
