-- `number_lines::is_digit` meets its contract, by the test.
-- Assumes nothing.
use borrow.Author.Tests.{lt-ltb, le-ltb}
use native.Mathlib.Omega.{arith}
use Rattle.number_lines.proofs.is_digit.Statement.{statement}
use Rattle.number_lines.proofs.is_digit.Tie as tie

returns : tie.Need-returns-then-b-lt48
returns c = rw (lt-ltb c.before.args.b 48 c.if-b-lt48.true)

returns-2 : tie.Need-returns
returns-2 c = rw (le-ltb c.before.args.b 48 (omega arith))

pub is_digit_spec : {M : Type 1} → statement M
is_digit_spec = tie.close (tie.spec returns returns-2)
