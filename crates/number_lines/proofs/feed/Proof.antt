-- `number_lines::feed` meets its contract, case by case.
-- Assumes nothing.
use mathlib.Core.Path.{◌≡◌, sym, ◌∙◌}
use lib.ListN.{length}
use Prim.Native.Nat.{◌≤◌, ◌<◌}
use Rattle.number_lines.specs.Steps.{fed_lone, fed_first, fed_name, fed}
use Rattle.number_lines.proofs.Picks.{if-eq, if-ne}
use Rattle.number_lines.proofs.Fed.{fed-lone, fed-digits, fed-name, fed-first}
use borrow.Author.Rules.{rules}
use Rattle.number_lines.proofs.feed.Statement.{statement}
use Rattle.number_lines.proofs.feed.Tie as tie

-- behind the test for a lone 0, and behind that for other digits
abbrev st-at-struct-known : tie.After-struct_known-1 → tie.Start
st-at-struct-known c = c.before.before

abbrev st : tie.After-struct_known-2-1 → tie.Start
st c = st-at-struct-known c.before.before

abbrev st-name : tie.Else-r-eq2 → tie.Start
st-name c = st c.before

in-name : (c : tie.Else-r-eq2) → let a = (st-name c).args in a.r.at < length a.name.now → fed a.name.now a.most a.r a.b ≡ fed_name a.name.now a.r a.b
in-name c h = let a = (st-name c).args in fed-name a.name.now a.most a.r a.b c.before.before.if-r-eq1.false c.if-r-eq2.false h

in-number : (c : tie.Else-r-eq2) → let a = (st-name c).args in length a.name.now ≤ a.r.at → fed a.name.now a.most a.r a.b ≡ fed_first a.most a.r a.b
in-number c h = let a = (st-name c).args in fed-first a.name.now a.most a.r a.b c.before.before.if-r-eq1.false c.if-r-eq2.false h

-- behind a first 0
in-lone : (c : tie.Then-r-eq1) → let a = (st-at-struct-known c.before).args in fed a.name.now a.most a.r a.b ≡ fed_lone a.b
in-lone c = let a = (st-at-struct-known c.before).args in fed-lone a.name.now a.most a.r a.b c.if-r-eq1.true

returns-3 : tie.Need-returns-then-r-eq2
returns-3 c =
    let at = c.before in
    let a = (st at.before).args in
    c.feed_digits.ensures ∙ sym (fed-digits a.name.now a.most a.r a.b at.before.before.if-r-eq1.false at.if-r-eq2.true)

pub feed_spec : {M : Type 1} → statement M
feed_spec =
    tie.close
    (tie.spec
    (λ c. sym (in-lone c.before ∙ if-eq _ _ _ _ c.if-b-eq10.true))
    (λ c. sym (in-lone c.before ∙ if-ne _ _ _ _ c.if-b-eq10.false))
    (λ c κs. search rules)
    returns-3
    (λ c. search rules)
    (λ c. search rules)
    (λ c. let at = c.before.before in sym (in-name at.before at.if-at-name.true ∙ if-eq _ _ _ _ c.if-b-name.true))
    (λ c. let at = c.before.before in sym (in-name at.before at.if-at-name.true ∙ if-ne _ _ _ _ c.if-b-name.false))
    (λ c κs. search rules)
    (λ c. let at = c.before in c.feed_first.ensures ∙ sym (in-number at.before at.if-at-name.false)))
