-- `point_lines::feed_low` meets its contract, case by case.
-- Assumes nothing.
use mathlib.Core.Path.{◌≡◌, sym, ap, ◌∙◌}
use mathlib.Core.Bool.{true}
use native.Mathlib.Nat.{mod-lt}
use native.Mathlib.Omega.{arith}
use Rattle.point_lines.specs.Lines.{hexadecimal}
use Rattle.point_lines.specs.Steps.{paired}
use Rattle.point_lines.proofs.Digits.{digit_low}
use Rattle.number_lines.proofs.Picks.{yes, no, if-lt, if-le}
use borrow.Author.Rules.{rules}
use Rattle.point_lines.proofs.feed_low.Statement.{statement}
use Rattle.point_lines.proofs.feed_low.Tie as tie

-- the places
abbrev at-digit : tie.After-is_hexadecimal → tie.Else-at-ge32
at-digit c = c.before

abbrev st : tie.After-is_hexadecimal → tie.Start
st c = (at-digit c).before

is_digit : (c : tie.Then-is_hexadecimal) → hexadecimal (st c.before).args.b ≡ true
is_digit c = sym c.before.is_hexadecimal.ensures ∙ c.if-is_hexadecimal.true

returns : tie.Need-returns-then-at-ge32
returns c = let at = c.before in c.turned.ensures ∙ sym (if-le at.before.args.r.pairs 32 _ _ at.if-at-ge32.true)

add-q-2 : tie.Need-overflow_add-q-then-is_hexadecimal
add-q-2 c =
    let at = c.before.before in
    let a = (st at.before).args in
    let h = mod-lt a.r.high {m = 16} (omega arith) in
    record { fits = omega (arith, h, c.digit_value.ensures, digit_low a.b (is_digit at)) }

returns-2 : tie.Need-returns-then-is_hexadecimal
returns-2 c =
    let at = c.before.before in
    let k = at.before in
    let a = (st k).args in
    ap (paired a.r) c.digit_value.ensures ∙ sym (if-lt a.r.pairs 32 _ _ (at-digit k).if-at-ge32.false ∙ yes _ _ _ (is_digit at))

returns-3 : tie.Need-returns
returns-3 c =
    let at = c.before in
    let k = at.before in
    c.turned-2.ensures
    ∙ sym (if-lt (st k).args.r.pairs 32 _ _ (at-digit k).if-at-ge32.false ∙ no _ _ _ (sym k.is_hexadecimal.ensures ∙ at.if-is_hexadecimal.false))

pub feed_low_spec : {M : Type 1} → statement M
feed_low_spec =
    tie.close
    (tie.spec
    (λ c κs. search rules)
    returns
    (λ c κs. search rules)
    (λ c. search rules)
    (λ c. search rules)
    (λ c κs. is_digit c.before)
    add-q-2
    (λ c. search rules)
    returns-2
    (λ c κs. search rules)
    returns-3)
