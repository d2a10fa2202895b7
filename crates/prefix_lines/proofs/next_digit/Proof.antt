-- `prefix_lines::next_digit` meets its contract, by the tests.
-- Assumes nothing.
use mathlib.Core.Bool.{not}
use mathlib.Core.Path.{sym, ◌∙◌, ap}
use native.Mathlib.Omega.{arith}
use borrow.Author.Rules.{rules}
use borrow.Author.Tests.{eq-eqb, ne_eqb, le-leb, lt-leb, not-true, not-false}
use Rattle.number_lines.proofs.Fed.{digit-range}
use Rattle.prefix_lines.proofs.next_digit.Statement.{statement}
use Rattle.prefix_lines.proofs.next_digit.Tie as tie

returns : tie.Need-returns-then-lo-v
returns c = let a = c.before.before.args in rw (eq-eqb a.b 0x0A c.before.if-b-eq10.true, le-leb a.lo a.v c.if-lo-v.true)

returns-2 : tie.Need-returns-then-b-eq10
returns-2 c = let a = c.before.before.args in rw (eq-eqb a.b 0x0A c.before.if-b-eq10.true, lt-leb a.lo a.v (omega arith))

-- the places
abbrev st-at-is-digit : tie.After-is_digit → tie.Start
st-at-is-digit c = c.before.before

returns-3 : tie.Need-returns-then-not-is_digit
returns-3 c =
    let k = c.before in
    let a = (st-at-is-digit k).args in
    rw (ne_eqb a.b 0x0A k.before.if-b-eq10.false, sym k.is_digit.ensures ∙ not-true _ (ap not c.if-not-is_digit.true))

sub-next : tie.Need-overflow_sub-next
sub-next c = (digit-range (st-at-is-digit c.before).args.b (sym c.before.is_digit.ensures ∙ not-false _ (ap not c.if-not-is_digit.false))).0

abbrev is-digit-at-opens : tie.After-opens → tie.After-is_digit
is-digit-at-opens c = c.before.before

returns-4 : tie.Need-returns-then-opens
returns-4 c =
    let o = c.before in
    let k = is-digit-at-opens o in
    let a = (st-at-is-digit k).args in
    rw (ne_eqb a.b 0x0A k.before.if-b-eq10.false, sym k.is_digit.ensures ∙ not-false _ (ap not o.before.if-not-is_digit.false), sym o.opens.ensures ∙ c.if-opens.true)

returns-5 : tie.Need-returns
returns-5 c =
    let o = c.before in
    let k = is-digit-at-opens o in
    let a = (st-at-is-digit k).args in
    rw (ne_eqb a.b 0x0A k.before.if-b-eq10.false, sym k.is_digit.ensures ∙ not-false _ (ap not o.before.if-not-is_digit.false), sym o.opens.ensures ∙ c.if-opens.false)

pub next_digit_spec : {M : Type 1} → statement M
next_digit_spec =
    tie.close
    (tie.spec
    returns
    returns-2
    (λ c κs. search rules)
    returns-3
    (λ c. search rules)
    sub-next
    (λ c. search rules)
    (λ c. search rules)
    (λ c κs. search rules)
    returns-4
    returns-5)
