-- `print_parser::in_file` meets its contract, by the test.
-- Assumes nothing.
use mathlib.Core.Path.{sym}
use Rattle.number_lines.proofs.Picks.{if-eq, if-ne}
use Rattle.print_parser.proofs.in_file.Statement.{statement}
use Rattle.print_parser.proofs.in_file.Tie as tie

returns : tie.Need-returns-then-p-ne0
returns c = sym (if-ne c.before.before.args.p.left 0 _ _ c.if-p-ne0.true)

returns-2 : tie.Need-returns
returns-2 c = let at = c.before.before in sym (if-eq at.before.before.args.p.left 0 _ _ at.if-p-ne0.false)

pub in_file_spec : {M : Type 1} → statement M
in_file_spec = tie.close (tie.spec returns returns-2)
