-- `text_head::tellable` meets its contract.
-- Assumes nothing.
use mathlib.Core.Path.{◌≡◌, refl, sym, ap, ◌∙◌}
use mathlib.Core.Bool.{Bool, true, false, not}
use Prim.Native.Nat.{ℕ, ◌-◌, ◌≤◌}
use native.Mathlib.Omega.{arith}
use lib.ListN.{length, take}
use borrow.Author.Tests.{not-true, not-false}
use Rattle.lists.specs.Tests.{pick}
use Rattle.sizes.proofs.Legal.{legal-facts}
use Rattle.mbcr.specs.Share.{pointed}
use Rattle.mbcr.proofs.PointLaws.{pointed-facts}
use Rattle.text_lines.specs.Steps.{in_order}
use borrow.Author.Rules.{rules}
use Rattle.text_head.proofs.tellable.Statement.{statement}
use Rattle.text_head.proofs.tellable.Tie as tie

abbrev st : tie.After-points_taken → tie.Start
st c = c.before.before

returns : tie.Need-returns-then-not-points_taken
returns c = let e = sym c.before.points_taken.ensures ∙ not-true _ (ap not c.if-not-points_taken.true) in sym (rw e)

is-pointed : (c : tie.Else-not-points_taken) → let a = (st c.before).args in pointed a.sizes a.points.now ≡ true
is-pointed c = sym c.before.points_taken.ensures ∙ not-false _ (ap not c.if-not-points_taken.false)

-- there are 32 points
enough : (c : tie.Else-not-points_taken) → let a = (st c.before).args in a.sizes.n ≤ length a.points.now
enough c =
    let s = st c.before in
    let few = (legal-facts s.args.sizes s.requires).few in
    omega (arith, few, (pointed-facts s.args.sizes s.args.points.now few (is-pointed c)).long)

last : (t : Bool) → t ≡ pick t true false
last true = refl
last false = refl

returns-2 : tie.Need-returns
returns-2 c =
    let e = c.before.before in
    let a = (st e.before).args in
    let part : a.sizes.n - 0 ≡ a.sizes.n = omega arith in
    ap not (c.in_order.ensures ∙ ap (λ (m : ℕ). in_order (take m a.points.now)) part)
    ∙ last (not (in_order (take a.sizes.n a.points.now)))
    ∙ sym (ap (λ (t : Bool). pick t (pick (not (in_order (take a.sizes.n a.points.now))) true false) false) (is-pointed e))

pub tellable_spec : {M : Type 1} → statement M
tellable_spec =
    tie.close
    (tie.spec
    (λ c κs. search rules)
    returns
    (λ c. search rules)
    (λ c. search rules)
    (λ c. enough c)
    (λ c κs. search rules)
    returns-2)
