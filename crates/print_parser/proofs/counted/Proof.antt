-- `print_parser::counted` meets its contract, by the test.
-- Assumes nothing.
use borrow.Author.Tests.{lt-ltb, le-ltb}
use native.Mathlib.Omega.{arith}
use Rattle.printer.specs.Printer.{max_file}
use borrow.Author.Rules.{rules}
use Rattle.print_parser.proofs.counted.Statement.{statement}
use Rattle.print_parser.proofs.counted.Tie as tie

returns : tie.Need-returns-then-p-gt-MOST
returns c = rw (lt-ltb max_file c.before.before.args.p.count c.if-p-gt-MOST.true)

returns-2 : tie.Need-returns
returns-2 c = rw (le-ltb max_file c.before.before.before.args.p.count (omega arith))

pub counted_spec : {M : Type 1} → statement M
counted_spec = tie.close (tie.spec returns (λ c. search rules) returns-2)
