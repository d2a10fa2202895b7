-- `point_lines::feed_high` meets its contract, case by case.
-- Assumes nothing.
use mathlib.Core.Path.{◌≡◌, sym, ap, ◌∙◌}
use mathlib.Core.Bool.{true}
use Prim.Native.Nat.{ℕ}
use Rattle.point_lines.specs.declared.PointReader.{PointReader}
use Rattle.point_lines.specs.Lines.{hexadecimal}
use Rattle.point_lines.specs.Steps.{begun, fed_end, fed_high}
use Rattle.number_lines.proofs.Picks.{yes, no, if-eq, if-ne}
use borrow.Author.Rules.{rules}
use Rattle.point_lines.proofs.feed_high.Statement.{statement}
use Rattle.point_lines.proofs.feed_high.Tie as tie

-- the places
abbrev st : tie.After-struct_known-1 → tie.Start
st c = c.before

abbrev at-digit : tie.After-is_hexadecimal → tie.Else-r-n
at-digit c = c.before

abbrev st-digit : tie.After-is_hexadecimal → tie.Start
st-digit c = st (at-digit c).before

-- behind the last pair
ended : (c : tie.Then-r-n) (q : PointReader) → let a = (st c.before).args in q ≡ fed_end a.r a.b → q ≡ fed_high a.n a.r a.b
ended c q e = e ∙ sym (if-eq (st c.before).args.r.pairs _ _ _ c.if-r-n.true)

returns : tie.Need-returns-then-b-eq10
returns c =
    let at = c.before in
    let a = (st at.before.before).args in
    ended at.before _ (c.turned.ensures ∙ sym (if-eq a.b 0x0A _ _ at.if-b-eq10.true))

returns-2 : tie.Need-returns-then-r-n
returns-2 c =
    let at = c.before in
    let a = (st at.before.before).args in
    ended at.before _ (c.turned-then-r-n.ensures ∙ sym (if-ne a.b 0x0A _ _ at.if-b-eq10.false))

is_digit : (c : tie.Then-is_hexadecimal) → hexadecimal (st-digit c.before).args.b ≡ true
is_digit c = sym c.before.is_hexadecimal.ensures ∙ c.if-is_hexadecimal.true

returns-3 : tie.Need-returns-then-is_hexadecimal
returns-3 c =
    let k = c.before in
    let g = at-digit k.before in
    let a = (st g.before).args in
    ap (λ (v : ℕ). begun a.r v) c.digit_value.ensures ∙ sym (if-ne a.r.pairs _ _ _ g.if-r-n.false ∙ yes _ _ _ (is_digit k))

returns-4 : tie.Need-returns
returns-4 c =
    let k = c.before in
    let g = at-digit k.before in
    let a = (st g.before).args in
    c.turned-2.ensures ∙ sym (if-ne a.r.pairs _ _ _ g.if-r-n.false ∙ no _ _ _ (sym k.before.is_hexadecimal.ensures ∙ k.if-is_hexadecimal.false))

pub feed_high_spec : {M : Type 1} → statement M
feed_high_spec =
    tie.close
    (tie.spec
    (λ c κs. search rules)
    returns
    (λ c κs. search rules)
    returns-2
    (λ c κs. search rules)
    (λ c κs. is_digit c)
    returns-3
    (λ c κs. search rules)
    returns-4)
