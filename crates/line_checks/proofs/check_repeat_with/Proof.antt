-- `line_checks::check_repeat_with` meets its contract.
-- Assumes nothing.
use mathlib.Core.Path.{◌≡◌, refl, sym, ◌∙◌}
use mathlib.Core.Bool.{false}
use lib.Dec.{eqb}
use borrow.Author.Rules.{rules}
use borrow.Author.Tests.{eq-eqb, ne_eqb}
use Rattle.lists.specs.Tests.{among}
use Rattle.line_checks.proofs.check_repeat_with.Statement.{statement}
use Rattle.line_checks.proofs.check_repeat_with.Tie as tie

-- the places
abbrev st : tie.After-among_from → tie.Start
st c = c.before.before.before

abbrev at_one : tie.After-among_from-2 → tie.After-among_from
at_one c = c.before.before

-- the second is not the first; none of the list is the first
other-on : (c : tie.After-among_from) → eqb (st c).args.other (st c).args.one ≡ false
other-on c = ne_eqb _ _ c.before.if-other-one.false

one_on : (c : tie.After-among_from-2) → among (st (at_one c)).args.boards.now (st (at_one c)).args.one ≡ false
one_on c = sym (at_one c).among_from.ensures ∙ c.before.if-among_from.false

returns : tie.Need-returns-then-other-one
returns c = let a = c.before.before.args in rw (eq-eqb a.other a.one c.if-other-one.true) refl

returns-2 : tie.Need-returns-then-among_from
returns-2 c = rw (other-on c.before) (rw (sym c.before.among_from.ensures ∙ c.if-among_from.true) refl)

returns-3 : tie.Need-returns-then-among_from-2
returns-3 c = let k = c.before in rw (other-on (at_one k)) (rw (one_on k) (rw (sym k.among_from-2.ensures ∙ c.if-among_from-2.true) refl))

returns-4 : tie.Need-returns
returns-4 c =
    let k = c.before.before in
    c.check_repeat.ensures ∙ (rw (other-on (at_one k)) (rw (one_on k) (rw (sym k.among_from-2.ensures ∙ c.before.if-among_from-2.false) refl)))

pub check_repeat_with_spec : {M : Type 1} → statement M
check_repeat_with_spec =
    tie.close
    (tie.spec
    returns
    (λ c κs. search rules)
    returns-2
    (λ c κs. search rules)
    returns-3
    (λ c κs. search rules)
    returns-4)
