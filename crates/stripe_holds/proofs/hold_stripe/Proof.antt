-- `stripe_holds::hold_stripe` meets its contract: the stripe that is decoded, and what of it each of the two keeps.
-- Assumes nothing.
use mathlib.Core.Path.{◌≡◌, ap, ◌∙◌}
use mathlib.Core.Bool.{true}
use mathlib.Core.List.{List, ◌++◌}
use Prim.Native.Nat.{ℕ, ◌+◌, ◌*◌, ◌<◌, ◌≤◌}
use native.Mathlib.Nat.{one-mul}
use native.Mathlib.Omega.{arith}
use lib.ListN.{length, drop}
use borrow.Author.Rules.{rules}
use Rattle.sizes.specs.Sizing.{legal, α, B}
use Rattle.sizes.proofs.Legal.{Legal, legal-facts}
use Rattle.mbcr.proofs.Decode.{length-decoded}
use Rattle.stripes_cut.specs.Steps.{stripe_at}
use Rattle.encode_values.specs.Steps.{row_values}
use Rattle.stripe_holds.proofs.Compared.{decoded-holds, one-stripe}
use Rattle.stripe_holds.proofs.hold_stripe.Statement.{statement}
use Rattle.stripe_holds.proofs.hold_stripe.Tie as tie

-- places in the code
abbrev start-of-struct_known-1 : tie.After-struct_known-1 → tie.Start
start-of-struct_known-1 c = c.before.before.before.before.before.before.before.before.before

abbrev start-of-struct_known-2-1 : tie.After-struct_known-2-1 → tie.Start
start-of-struct_known-2-1 c = start-of-struct_known-1 c.before

abbrev start-of-row_values : tie.After-row_values → tie.Start
start-of-row_values c = start-of-struct_known-2-1 c.before.before.before.before.before.before

-- places in the code
abbrev st-first : tie.After-struct_known-1 → tie.Start
st-first c = c.before.before.before.before.before.before.before.before.before

abbrev st : tie.After-struct_known-2-1 → tie.Start
st c = st-first c.before

abbrev st-stripes : tie.After-stripes → tie.Start
st-stripes c = st c.before.before

abbrev stripes-at-rows : tie.After-row_values → tie.After-stripes
stripes-at-rows c = c.before.before.before.before

facts : (g : tie.Start) → Legal g.args.sizes
facts g = legal-facts _ g.requires.0.sized

-- the stripe that is decoded, and the values of its rows
module _ (c : tie.After-row_values) where
  abbrev k : tie.After-stripes
  k = stripes-at-rows c

  abbrev g : tie.Start
  g = st-stripes k

  abbrev u : List ℕ
  u = c.stripes.new.out

  stripe-is : u ≡ stripe_at c.args.sizes c.args.points.now c.args.boards.now c.args.starts.now c.args.area.now c.args.s
  stripe-is =
      let a = c.args in
      one-stripe (B a.sizes) a.s _ (stripe_at a.sizes a.points.now a.boards.now a.starts.now a.area.now) u
      (length-decoded a.sizes a.points.now (facts (start-of-row_values c)) a.boards.now c.requires.0.counted _) c.requires.13 c.stripes.ensures

  long : length u ≡ B c.args.sizes
  long = ap length stripe-is ∙ length-decoded c.args.sizes c.args.points.now (facts (start-of-row_values c)) c.args.boards.now c.requires.0.counted _

  rows_long : length c.row_values.new.rows ≡ 992
  rows_long = c.row_values.auto.rows ∙ c.requires.14

  -- what is asked of each of the two
  asks : (i at : ℕ) → i < c.args.sizes.n → at + α c.args.sizes ≤ length c.args.area.now
      → (legal c.args.sizes ≡ true) × (i < c.args.sizes.n) × (length c.args.points.now ≡ 32)
      × (length c.args.powers.now ≡ 16384) × (length c.row_values.new.rows ≡ 992) × (at + α c.args.sizes ≤ length c.args.area.now)
  asks i at hi ha = (c.requires.0.sized, hi, c.requires.5, c.requires.11, rows_long, ha)

  -- the rows are those of the stripe's values
  rows_are : c.row_values.new.rows ≡ row_values c.args.sizes c.args.points.now u ++ drop (c.args.sizes.d * 32) c.args.rows.now
  rows_are = c.row_values.ensures c.args.points.now c.requires.5 c.requires.12

stripes-requires : tie.Need-stripes-requires
stripes-requires c κs =
    let z = c.args.sizes in
    (c.requires.0, c.requires.1, c.requires.2, omega (arith, c.requires.3), c.requires.4, omega (arith, c.requires.13, one-mul (B z)), omega (arith, c.requires.13, one-mul (B z)))

row-values-requires : tie.Need-row_values-requires
row-values-requires c κs =
    (c.requires.0.sized, c.requires.11, c.stripes.auto.out ∙ c.requires.13, c.requires.14)

returns : tie.Need-returns
returns c =
    let a = c.args in (
      decoded-holds a.sizes a.points.now a.boards.now a.starts.now a.area.now (u c.before.before.before.before) a.first a.p a.s a.held.first _ (stripe-is c.before.before.before.before)
          (c.still_holds-one.ensures (u c.before.before.before.before) _ (long c.before.before.before.before) c.requires.12 (rows_are c.before.before.before.before)),
      decoded-holds a.sizes a.points.now a.boards.now a.starts.now a.area.now (u c.before.before.before.before) a.second a.q a.s a.held.second _ (stripe-is c.before.before.before.before)
          (c.still_holds-other.ensures (u c.before.before.before.before) _ (long c.before.before.before.before) c.requires.12 (rows_are c.before.before.before.before)),
    )

pub hold_stripe_spec : {M : Type 1} → statement M
hold_stripe_spec =
    tie.close
    (tie.spec
    (λ c. omega (arith, facts (start-of-struct_known-1 c)))
    (λ c. omega (arith, facts (start-of-struct_known-2-1 c)))
    (λ c. omega (arith, facts (start-of-struct_known-2-1 c)))
    (λ c. omega (arith, c.requires.7, c.requires.10))
    stripes-requires
    row-values-requires
    (λ c. omega (arith, c.requires.7, c.requires.10))
    (λ c κs. asks c.before.before c.args.p _ c.requires.6 c.requires.7)
    (λ c. omega (arith, c.requires.9, c.requires.10))
    (λ c κs. asks c.before.before.before c.args.q _ c.requires.8 c.requires.9)
    (λ c. search rules)
    (λ c. search rules)
    returns)
