-- `prefix_pairs::points_on` meets its contract: a pair more, or no further.
-- Assumes nothing.
use Rattle.std.proofs.Common.{◌≡◌, ℕ, ◌+◌, ◌-◌, ◌≤◌, ◌<◌, List, [], ◌∷◌, ◌++◌, length, take, drop, sym, ap, ◌∙◌, arith}
use borrow.Author.Tests.{not-true, not-false}
use Rattle.lists.specs.Tests.{pick}
use Rattle.number_lines.proofs.Picks.{yes, no}
use Rattle.prefix_spec.specs.Prefix.{pair_on, pairs_on, may_point}
use Rattle.prefix_steps.specs.declared.Went.{Went}
use Rattle.prefix_steps.specs.Steps.{Goes}
use Rattle.prefix_points.specs.Steps.{may_last}
use Rattle.prefix_pairs.proofs.Pairs.{points-step, part-long, part-before, part-back, part-new}
use Rattle.prefix_pairs.proofs.points_on.Goals as goal

-- a pair more
one : (text points : List ℕ) (n i j : ℕ) → j < n → j + 1 ≤ length points → (w : Went)
    → Goes text i (pair_on (may_last (take (j + 1 - 0) points) (n - (j + 1))) (drop i text)) w
    → (go : List ℕ → ℕ) → i + pairs_on (may_point n) (n - j) (take j points) (drop i text) go
    ≡ pick w.ok (w.at + pairs_on (may_point n) (n - (j + 1)) (take j points ++ (w.value ∷ [])) (drop w.at text) go) w.at
one text points n i j h room w g =
    points-step text (take j points) (take (j + 1 - 0) points) n i j h (part-long points j room) (part-before points j room) w g

pub pair_on-pair-requires : goal.pair_on-pair-requires
pair_on-pair-requires c =
    let r : c.loop-j.j + 1 ≤ length c.loop-j.points = omega arith in
    omega (arith, part-long c.loop-j.points c.loop-j.j r)

pub loop-j-init : goal.loop-j-init
loop-j-init c go =
    let a = c.args in
    let e : a.n - 0 ≡ a.n = omega arith in
    ap (λ (m : ℕ). a.at + pairs_on (may_point a.n) m [] (drop a.at a.text.now) go) e

pub returns-then-not-pair : goal.returns-then-not-pair
returns-then-not-pair c go =
    let e = not-true _ c.if-not-pair.true in
    sym (c.loop-j.invariant (go 0)) ∙ one c.args.text.now c.loop-j.points c.args.n c.loop-j.i c.loop-j.j c.loop-j-test.true (omega arith) c.pair_on-pair.result c.pair_on-pair.ensures.0 (go 0) ∙ no c.pair_on-pair.result.ok _ _ e ∙ sym (no c.pair_on-pair.result.ok _ _ e)

pub loop-j-preserved : goal.loop-j-preserved
loop-j-preserved c go =
    let a = c.args in
    let w = c.pair_on-pair.result in
    let ok = not-false _ c.if-not-pair.false in
    let new = part-new c.loop-j.points c.pair_on-pair.new.points c.loop-j.j w.value (omega arith) (c.pair_on-pair.ensures.1 ok) in
    ap (λ (xs : List ℕ). w.at + pairs_on (may_point a.n) (a.n - (c.loop-j.j + 1)) xs (drop w.at a.text.now) go)
    (part-back c.loop-j.points c.pair_on-pair.new.points c.loop-j.j new.1 ∙ new.0)
    ∙ sym (one c.args.text.now c.loop-j.points c.args.n c.loop-j.i c.loop-j.j c.loop-j-test.true (omega arith) c.pair_on-pair.result c.pair_on-pair.ensures.0 go ∙ yes w.ok _ w.at ok) ∙ c.loop-j.invariant go

pub returns : goal.returns
returns c go =
    let a = c.args in
    let z : 0 ≡ a.n - c.loop-j.j = omega arith in
    sym (c.loop-j.invariant (go 0))
    ∙ ap (λ (m : ℕ). c.loop-j.i + pairs_on (may_point a.n) m (take c.loop-j.j c.loop-j.points) (drop c.loop-j.i a.text.now) (go 0)) (sym z)
    ∙ c.end_on.ensures go
