-- `prefix_rest::data_line` meets its contract: a name, then pairs, and nothing behind them.
-- Assumes nothing.
use mathlib.Core.Path.{◌∙◌}
use mathlib.Core.Bool.{true}
use mathlib.Core.List.{[]}
use borrow.Author.Rules.{rules}
use borrow.Author.Tests.{not-true, not-false}
use Rattle.prefix_spec.specs.Prefix.{pairs_on}
use Rattle.prefix_steps.proofs.Steps.{place, goes-from, goes_end}
use Rattle.prefix_rest.proofs.data_line.Statement.{statement}
use Rattle.prefix_rest.proofs.data_line.Tie as tie

returns : tie.Need-returns-then-not-name
returns c =
    let k = c.before.before in
    let a = k.before.before.before.args in
    goes_end a.text.now a.at _ k.name_on-name.result k.name_on-name.ensures (not-true _ c.if-not-name.true) (λ v input. pairs_on (λ m xs. true) a.count [] input (λ rest. 0))

returns-2 : tie.Need-returns
returns-2 c =
    let f = c.before in
    let k = f.before.before in
    let a = k.before.before.before.args in
    place a.text.now k.name_on-name.result.at _ c.data_on-data.result c.data_on-data.ensures
    ∙ goes-from a.text.now a.at _ k.name_on-name.result k.name_on-name.ensures (not-false _ f.if-not-name.false) (λ v input. pairs_on (λ m xs. true) a.count [] input (λ rest. 0))

pub data_line_spec : {M : Type 1} → statement M
data_line_spec = tie.close (tie.spec
    (λ c κs. search rules)
    returns
    (λ c κs. search rules)
    returns-2)
