-- `point_lines::digit_value` meets its contract, by the test.
-- Assumes nothing.
use mathlib.Core.Path.{sym}
use native.Mathlib.Omega.{arith}
use Rattle.point_lines.proofs.Digits.{digit-range}
use Rattle.number_lines.proofs.Picks.{if-lt, if-le}
use Rattle.point_lines.proofs.digit_value.Statement.{statement}
use Rattle.point_lines.proofs.digit_value.Tie as tie

pub digit_value_spec : {M : Type 1} → statement M
digit_value_spec =
    tie.close
    (tie.spec
    (λ c. let g = c.before in omega (arith, digit-range g.args.b g.requires))
    (λ c. let g = c.before in omega (arith, (digit-range g.args.b g.requires).apart c.if-b-lt58.false))
    (λ c. sym (if-lt c.before.args.b 0x3A _ _ c.if-b-lt58.true))
    (λ c. sym (if-le c.before.args.b 0x3A _ _ c.if-b-lt58.false)))
