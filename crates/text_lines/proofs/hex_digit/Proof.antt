-- `text_lines::hex_digit` meets its contract, by the definition's own test.
-- Assumes nothing.
use borrow.Author.Tests.{lt-ltb, le-ltb}
use native.Mathlib.Omega.{arith}
use borrow.Author.Rules.{rules}
use Rattle.text_lines.proofs.hex_digit.Statement.{statement}
use Rattle.text_lines.proofs.hex_digit.Tie as tie

returns : tie.Need-returns-then-v-lt10
returns c = rw (lt-ltb _ 10 c.if-v-lt10.true)

returns-2 : tie.Need-returns-else-v-lt10
returns-2 c = rw (le-ltb c.before.args.v 10 (omega arith))

pub hex_digit_spec : {M : Type 1} → statement M
hex_digit_spec = tie.close (tie.spec (λ c. search rules) (λ c. search rules) returns returns-2)
