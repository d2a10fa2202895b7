-- `edit_stripe::changed_stripe` meets its contract: the stripe is decoded to the working array, and each byte turned to what it changes by.
-- Assumes nothing.
use Prim.Native.Nat.{◌*◌, ◌≤◌}
use native.Mathlib.Nat.{one-mul}
use native.Mathlib.Omega.{arith}
use lib.ListN.{length}
use borrow.Author.Rules.{rules}
use Rattle.sizes.specs.Sizing.{B}
use Rattle.sizes.proofs.Legal.{Legal, legal-facts, B-most}
use Rattle.mbcr.proofs.Decode.{length-decoded}
use Rattle.stripes_cut.specs.Steps.{stripe_at}
use Rattle.edit_stripe.specs.Steps.{changed_stripe}
use Rattle.edit_stripe.proofs.Changed.{stripe-from, one-changed}
use Rattle.edit_stripe.proofs.changed_stripe.Statement.{statement}
use Rattle.edit_stripe.proofs.changed_stripe.Tie as tie

-- places in the code
abbrev start-of-slice_known-1 : tie.After-slice_known-1 → tie.Start
start-of-slice_known-1 c = c.before.before.before.before.before.before.before

abbrev start-of-change-arg-1 : tie.After-change-arg-1 → tie.Start
start-of-change-arg-1 c = start-of-slice_known-1 c.before.before.before.before.before

abbrev start-of-slice_known-3-1 : tie.After-slice_known-3-1 → tie.Start
start-of-slice_known-3-1 c = start-of-change-arg-1 c.before.before.before

facts : (c : tie.Start) → Legal c.args.sizes
facts c = legal-facts _ c.requires.0.sized

-- where the stripe starts
from : (c : tie.Start) → c.args.s * length c.args.u.now ≤ 4063232
from c = stripe-from c.args.sizes c.args.s (length c.args.u.now) (facts c) c.requires.5 c.requires.3

stripes-requires : tie.Need-stripes-requires
stripes-requires c κs =
    let p = c.requires in
    let e = one-mul (B c.args.sizes) in
    (p.0, p.1, p.2, p.3, p.4, omega (arith, e, p.5), omega (arith, e, p.5))

change-requires : tie.Need-change-requires
change-requires c κs =
    (from (start-of-change-arg-1 c), omega (arith, c.stripes.auto.out, c.requires.5, B-most _ (facts (start-of-change-arg-1 c))))

returns : tie.Need-returns
unfolding changed_stripe
returns c =
    let a = c.args in
    one-changed (B a.sizes) a.s (length a.u.now) a.offset a.bytes.now
    (stripe_at a.sizes a.points.now a.boards.now a.starts.now a.area.now) _ _ c.requires.5
    (length-decoded a.sizes a.points.now (facts (start-of-slice_known-3-1 c)) a.boards.now c.requires.0.counted _) c.stripes.ensures c.change.ensures

pub changed_stripe_spec : {M : Type 1} → statement M
changed_stripe_spec =
    tie.close
    (tie.spec
    (λ c. omega (arith, from (start-of-slice_known-1 c)))
    stripes-requires
    change-requires
    (λ c. search rules)
    returns)
