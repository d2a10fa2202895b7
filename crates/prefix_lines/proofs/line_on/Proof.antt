-- `prefix_lines::line_on` meets its contract: a name, then a number.
-- Assumes nothing.
use borrow.Author.Rules.{rules}
use borrow.Author.Tests.{not-true, not-false}
use Rattle.lists.proofs.Tests.{true-false}
use Rattle.prefix_spec.specs.Prefix.{number_on}
use Rattle.prefix_steps.proofs.Steps.{goes-no, goes-yes}
use Rattle.prefix_lines.proofs.line_on.Statement.{statement}
use Rattle.prefix_lines.proofs.line_on.Tie as tie

-- the places
abbrev st-at-head-on : tie.After-head_on-name → tie.Start
st-at-head-on c = c.before.before

returns : tie.Need-returns-then-not-name
returns c =
    let h = c.before.before in
    let a = (st-at-head-on h).args in
    let e = not-true _ c.if-not-name.true in
    (goes-no a.text.now a.at _ h.head_on-name.result h.head_on-name.ensures e (λ go v rest. number_on a.lo a.hi rest go), λ ok. absurd (true-false ok e))

returns-2 : tie.Need-returns
returns-2 c =
    let f = c.before in
    let h = f.before.before in
    let a = (st-at-head-on h).args in (
      goes-yes a.text.now a.at _ h.head_on-name.result c.number_on.result h.head_on-name.ensures (not-false _ f.if-not-name.false) (λ go v rest. number_on a.lo a.hi rest go)
          c.number_on.ensures.0,
      c.number_on.ensures.1,
    )

pub line_on_spec : {M : Type 1} → statement M
line_on_spec = tie.close (tie.spec (λ c κs. search rules) returns (λ c κs. search rules) returns-2)
