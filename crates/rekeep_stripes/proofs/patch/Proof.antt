-- `rekeep_stripes::patch` meets its contract: one byte or two of the stripe are set.
-- Assumes nothing.
use mathlib.Core.Path.{◌≡◌, refl}
use Prim.Native.Nat.{◌+◌, ◌-◌}
use native.Mathlib.Omega.{arith}
use lib.ListN.{length-set}
use borrow.Author.Rules.{rules}
use Rattle.sizes.proofs.Legal.{Legal, legal-facts}
use Rattle.rekeep_stripes.proofs.Stripes.{patch-both, patch-one}
use Rattle.rekeep_stripes.proofs.patch.Statement.{statement}
use Rattle.rekeep_stripes.proofs.patch.Tie as tie

-- places in the code
abbrev start-of-else-t-d : tie.Else-t-d → tie.Start
start-of-else-t-d c = c.before.before.before.before.before

abbrev start-of-helper_pair-q : tie.After-helper_pair-q → tie.Start
start-of-helper_pair-q c = start-of-else-t-d c.before

abbrev start-of-row-1 : tie.After-row-1 → tie.Start
start-of-row-1 c = c.before.before.before.before.before.before

abbrev start-of-row-then-t-d-1 : tie.After-row-then-t-d-1 → tie.Start
start-of-row-then-t-d-1 c = start-of-row-1 c.before.before

facts : (c : tie.Start) → Legal c.args.sizes
facts c = legal-facts _ c.requires.0

-- f alone
first-in-requires : tie.Need-first_in-v-requires
first-in-requires c κs =
    let p = c.requires in
    let f = facts (start-of-row-1 c) in
    (omega (arith, f.enough, f.few), omega (arith, p.5, f.some_read, f.read-helpers), p.3, refl)

slice-write-stripe : tie.Need-bounds-stripe-t
slice-write-stripe c = omega (arith, c.requires.2, c.requires.5, (facts (start-of-row-then-t-d-1 c)).some_read, (facts (start-of-row-then-t-d-1 c)).read-helpers)

returns : tie.Need-returns-then-t-d
returns c =
    let a = c.args in
    patch-one a.sizes a.t _ a.ff.now a.gf.now a.stripe.now c.requires.1 c.first_in-v.ensures c.if-t-d.true c.requires.2

-- f and g
helper-pair-requires : tie.Need-helper_pair-q-requires
helper-pair-requires c κs =
    let p = c.requires in
    let f = facts (start-of-else-t-d c) in (
      omega (arith, f.some_read, f.read-helpers),
      omega (arith, f.some-fresh),
      omega (arith, p.5, f.some_read, f.read-helpers),
      p.3,
      p.4,
      omega (arith, f.enough, f.few),
      omega (arith, f.enough, f.few),
    )

slice-write-stripe-2 : tie.Need-bounds-stripe-t-2
slice-write-stripe-2 c = omega (arith, c.requires.2, c.requires.5, (facts (start-of-helper_pair-q c)).some_read, (facts (start-of-helper_pair-q c)).read-helpers)

slice-write-stripe-3 : tie.Need-bounds-stripe-at
slice-write-stripe-3 c =
    rw length-set (omega (arith, c.requires.1, c.requires.5, c.if-t-d.false))

returns-2 : tie.Need-returns
returns-2 c =
    let a = c.args in
    let z = a.sizes in
    let some = c.requires.1 in
    let e : z.d + z.r + a.t - 1 ≡ z.d + z.r + (a.t - 1) = omega (arith, some) in
    patch-both z a.t _ _ a.ff.now a.gf.now a.stripe.now some c.helper_pair-q.ensures _ c.if-t-d.false e

pub patch_spec : {M : Type 1} → statement M
patch_spec =
    tie.close
    (tie.spec
    (λ c. omega (arith, facts c.before.before.before.before))
    (λ c. search rules)
    first-in-requires
    slice-write-stripe
    (λ c. search rules)
    returns
    helper-pair-requires
    slice-write-stripe-2
    (λ c. omega (arith, c.requires.2, (facts (start-of-helper_pair-q c)).enough, (facts (start-of-helper_pair-q c)).few))
    (λ c. omega (arith, c.requires.1))
    slice-write-stripe-3
    (λ c. search rules)
    returns-2)
