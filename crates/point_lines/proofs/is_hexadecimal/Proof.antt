-- `point_lines::is_hexadecimal` meets its contract, by the tests.
-- Assumes nothing.
use mathlib.Core.Path.{sym, ◌∙◌}
use native.Mathlib.Omega.{arith}
use Rattle.number_lines.proofs.Picks.{if-lt, if-le}
use Rattle.point_lines.proofs.is_hexadecimal.Statement.{statement}
use Rattle.point_lines.proofs.is_hexadecimal.Tie as tie

returns : tie.Need-returns-then-b-lt48
returns c = sym (if-lt c.before.args.b 0x30 _ _ c.if-b-lt48.true)

returns-2 : tie.Need-returns-then-b-lt58
returns-2 c = let b = c.before.before.args.b in sym (if-le b 0x30 _ _ c.before.if-b-lt48.false ∙ if-lt b 0x3A _ _ c.if-b-lt58.true)

returns-3 : tie.Need-returns-then-b-lt97
returns-3 c =
    let at = c.before in
    let b = at.before.before.args.b in
    sym (if-le b 0x30 _ _ at.before.if-b-lt48.false ∙ if-le b 0x3A _ _ at.if-b-lt58.false ∙ if-lt b 0x61 _ _ (omega arith))

returns-4 : tie.Need-returns
returns-4 c =
    let at = c.before in
    let b = at.before.before.args.b in
    sym (if-le b 0x30 _ _ at.before.if-b-lt48.false ∙ if-le b 0x3A _ _ at.if-b-lt58.false ∙ if-le b 0x61 _ _ (omega arith))

pub is_hexadecimal_spec : {M : Type 1} → statement M
is_hexadecimal_spec = tie.close (tie.spec returns returns-2 returns-3 returns-4)
