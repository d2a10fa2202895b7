-- `prefix_points::some_low` meets its contract: the digits are tried from the greatest down.
-- Assumes nothing.
use Rattle.std.proofs.Common.{◌≡◌, ℕ, ◌+◌, ◌*◌, ◌-◌, ◌≤◌, Bool, List, length, take, refl, sym, ap, ap₂, ◌∙◌, arith}
use lib.ListN.{set, length-set}
use Rattle.prefix_spec.specs.Prefix.{some, may_point}
use Rattle.prefix_points.proofs.Last.{last_set, last-kept, some-last}
use Rattle.prefix_points.proofs.some_low.Invariants.{may}
use Rattle.prefix_points.proofs.some_low.Goals as goal

-- what is asked of the last byte
tried : (points₀ points : List ℕ) (high left low : ℕ) → length points ≡ length points₀
    → 1 ≤ length points₀ → take (length points₀ - 1) points ≡ take (length points₀ - 1) points₀
    → (r : Bool) → r ≡ may_point (length (set points (length points₀ - 1) (16 * high + low)) + left) left (set points (length points₀ - 1) (16 * high + low))
    → r ≡ may points₀ high left low
tried points₀ points high left low e h t r q =
    q ∙ ap₂ (λ (m : ℕ) (l : List ℕ). may_point (m + left) left l) (length-set points (length points₀ - 1) (16 * high + low) ∙ e) (last_set points points₀ (16 * high + low) e h t)

pub loop-low-init : goal.loop-low-init
loop-low-init c = (refl, refl, omega arith)

pub returns-then-may_point : goal.returns-then-may_point
returns-then-may_point c =
    let a = c.args in
    let l = c.loop-low in
    let asked = tried a.points.now l.points a.high a.left (l.low - 1) l.auto.points c.requires.0 l.invariant.1 c.may_point.result c.may_point.ensures in (
      sym (l.invariant.0 ∙ (some-last l.low (may a.points.now a.high a.left) c.loop-low-test.true).0 (sym asked ∙ c.if-may_point.true)),
      last-kept l.points a.points.now (16 * a.high + (l.low - 1)) l.invariant.1,
    )

pub loop-low-preserved : goal.loop-low-preserved
loop-low-preserved c =
    let a = c.args in
    let l = c.loop-low in
    let asked = tried a.points.now l.points a.high a.left (l.low - 1) l.auto.points c.requires.0 l.invariant.1 c.may_point.result c.may_point.ensures in (
      l.invariant.0 ∙ (some-last l.low (may a.points.now a.high a.left) c.loop-low-test.true).1 (sym asked ∙ c.if-may_point.false),
      last-kept l.points a.points.now (16 * a.high + (l.low - 1)) l.invariant.1,
      omega arith,
    )

pub returns : goal.returns
returns c =
    let a = c.args in
    let z : c.loop-low.low ≡ 0 = omega arith in
    (sym (c.loop-low.invariant.0 ∙ ap (λ (m : ℕ). some m (may a.points.now a.high a.left)) z), c.loop-low.invariant.1)
