-- `number_lines::feed_first` meets its contract, by the tests.
-- Assumes nothing.
use mathlib.Core.Path.{◌≡◌, sym, ap, ◌∙◌}
use mathlib.Core.Bool.{true}
use Prim.Native.Nat.{ℕ}
use native.Mathlib.Omega.{arith}
use Rattle.number_lines.specs.declared.Read.TheVariants.{More}
use Rattle.number_lines.specs.Lines.{digit}
use Rattle.number_lines.proofs.Picks.{if-eq, if-ne, yes, no}
use Rattle.number_lines.proofs.Fed.{digit-range}
use borrow.Author.Rules.{rules}
use Rattle.number_lines.proofs.feed_first.Statement.{statement}
use Rattle.number_lines.proofs.feed_first.Tie as tie

abbrev st : tie.After-is_digit → tie.Start
st c = c.before.before

is_digit : (c : tie.Then-is_digit) → digit (st c.before).args.b ≡ true
is_digit c = sym c.before.is_digit.ensures ∙ c.if-is_digit.true

returns-2 : tie.Need-returns-then-is_digit
returns-2 c =
    let at = c.before in
    let s = st at.before in
    ap (λ (v : ℕ). More (record { part = 2; at = s.args.r.at; value = v })) c.least.ensures
    ∙ sym (if-ne s.args.b 48 _ _ at.before.before.if-b-eq48.false ∙ yes _ _ _ (is_digit at))

returns-3 : tie.Need-returns
returns-3 c =
    sym (if-ne (st c.before).args.b 48 _ _ c.before.before.if-b-eq48.false ∙ no _ _ _ (sym c.before.is_digit.ensures ∙ c.if-is_digit.false))

pub feed_first_spec : {M : Type 1} → statement M
feed_first_spec =
    tie.close
    (tie.spec
    (λ c. sym (if-eq c.before.args.b 48 _ _ c.if-b-eq48.true))
    (λ c κs. search rules)
    (λ c. omega (arith, digit-range (st c.before).args.b (is_digit c)))
    (λ c. search rules)
    (λ c κs. search rules)
    returns-2
    returns-3)
