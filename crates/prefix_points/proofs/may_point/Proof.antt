-- `prefix_points::may_point` meets its contract, by the tests.
-- Assumes nothing.
use mathlib.Core.Path.{◌≡◌, refl, sym, ap, ◌∙◌}
use mathlib.Core.Bool.{Bool, true, false, not}
use mathlib.Core.List.{List}
use Prim.Native.Nat.{ℕ, ◌+◌}
use native.Mathlib.Omega.{arith}
use lib.ListN.{length}
use borrow.Author.Rules.{rules}
use borrow.Author.Tests.{eq-eqb, ne_eqb, not-true, not-false}
use Rattle.lists.specs.Tests.{pick, same, different}
use Rattle.lists.specs.Lists.{tabulate}
use Rattle.prefix_spec.specs.Prefix.{may_point}
use Rattle.prefix_points.proofs.may_point.Statement.{statement}
use Rattle.prefix_points.proofs.may_point.Tie as tie

-- not in order, with none left
whole : (xs : List ℕ) (left : ℕ) → different xs ≡ true → left ≡ 0 → not (same xs (tabulate (length xs) (λ i. i))) ≡ may_point (length xs + left) left xs
whole xs left d e =
    let q : length xs ≡ length xs + left = omega (arith, e) in
    ap (λ (m : ℕ). not (same xs (tabulate m (λ i. i)))) q ∙ (rw (d, eq-eqb left 0 e) (one (not (same xs (tabulate (length xs + left) (λ i. i))))))
  where
    one : (t : Bool) → t ≡ pick t true false
    one true = refl
    one false = refl

abbrev differ : tie.Else-not-points_differ → tie.After-points_differ
differ c = c.before

-- the places
abbrev st-at-else1 : tie.Else-not-points_differ → tie.Start
st-at-else1 c = c.before.before.before

is-different : (c : tie.Else-not-points_differ) → different (st-at-else1 c).args.points.now ≡ true
is-different c = sym c.before.points_differ.ensures ∙ not-false _ (ap not c.if-not-points_differ.false)

returns : tie.Need-returns-then-not-points_differ
returns c = sym (rw (sym c.before.points_differ.ensures ∙ not-true _ (ap not c.if-not-points_differ.true)))

returns-2 : tie.Need-returns-then-left-eq0
returns-2 c =
    let e = c.before.before in
    let a = (st-at-else1 e).args in
    ap not c.in_order.ensures ∙ whole a.points.now a.left (is-different e) c.before.if-left-eq0.true

returns-3 : tie.Need-returns
returns-3 c =
    let a = (st-at-else1 c.before).args in
    sym (rw (is-different c.before, ne_eqb a.left 0 c.if-left-eq0.false))

pub may_point_spec : {M : Type 1} → statement M
may_point_spec = tie.close (tie.spec (λ c κs. search rules) returns (λ c κs. search rules) returns-2 returns-3)
