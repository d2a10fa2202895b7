-- `prefix_rest::points_line` meets its contract: a name, the points, then data=.
-- Assumes nothing.
use mathlib.Core.Path.{◌≡◌, ◌∙◌}
use mathlib.Core.Bool.{true}
use mathlib.Core.List.{List, []}
use Prim.Native.Nat.{ℕ, ◌+◌}
use lib.ListN.{drop}
use borrow.Author.Rules.{rules}
use borrow.Author.Tests.{not-true, not-false}
use Rattle.point_lines.specs.Steps.{points_name}
use Rattle.text_spec.specs.Texts.{data_name}
use Rattle.prefix_spec.specs.Prefix.{name_on, pairs_on, may_point}
use Rattle.prefix_steps.proofs.Steps.{goes-from, goes_end}
use Rattle.prefix_rest.proofs.points_line.Statement.{statement}
use Rattle.prefix_rest.proofs.points_line.Tie as tie

-- data=, and points before it
abbrev on_data : ℕ → List ℕ → ℕ
on_data count input = name_on data_name input (λ input. pairs_on (λ m xs. true) count [] input (λ rest. 0))

abbrev on_points : ℕ → ℕ → List ℕ → ℕ
on_points n count input = pairs_on (may_point n) n [] input (on_data count)

abbrev st : tie.After-name_on-name → tie.Start
st c = c.before.before.before.before

abbrev name-on-at-else1 : tie.Else-not-name → tie.After-name_on-name
name-on-at-else1 c = c.before.before

from-name : (c : tie.Else-not-name) → let k = name-on-at-else1 c in let a = (st k).args in let w = k.name_on-name.result in
    w.at + on_points a.n a.count (drop w.at a.text.now) ≡ a.at + name_on points_name (drop a.at a.text.now) (on_points a.n a.count)
from-name c =
    let k = name-on-at-else1 c in
    let a = (st k).args in
    goes-from a.text.now a.at _ k.name_on-name.result k.name_on-name.ensures (not-false _ c.if-not-name.false) (λ v input. on_points a.n a.count input)

returns : tie.Need-returns-then-not-name
returns c =
    let k = c.before.before in
    let a = (st k).args in
    goes_end a.text.now a.at _ k.name_on-name.result k.name_on-name.ensures (not-true _ c.if-not-name.true) (λ v input. on_points a.n a.count input)

returns-2 : tie.Need-returns-then-not-points
returns-2 c =
    let p = c.before.before in
    let k = name-on-at-else1 p.before in
    let a = (st k).args in
    goes_end a.text.now k.name_on-name.result.at _ p.points_on-points.result p.points_on-points.ensures (not-true _ c.if-not-points.true) (λ v input. on_data a.count input)
    ∙ from-name p.before

returns-3 : tie.Need-returns
returns-3 c =
    let f = c.before in
    let p = f.before.before in
    let k = name-on-at-else1 p.before in
    let a = (st k).args in
    c.data_line.ensures
    ∙ goes-from a.text.now k.name_on-name.result.at _ p.points_on-points.result p.points_on-points.ensures (not-false _ f.if-not-points.false) (λ v input. on_data a.count input)
    ∙ from-name p.before

pub points_line_spec : {M : Type 1} → statement M
points_line_spec = tie.close (tie.spec
    (λ c κs. search rules)
    returns
    (λ c κs. search rules)
    returns-2
    (λ c κs. search rules)
    returns-3)
