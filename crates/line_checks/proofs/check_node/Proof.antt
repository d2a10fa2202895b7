-- `line_checks::check_node` meets its contract.
-- Assumes nothing.
use mathlib.Core.Path.{refl}
use borrow.Author.Tests.{lt-ltb, le-ltb}
use Rattle.line_checks.proofs.check_node.Statement.{statement}
use Rattle.line_checks.proofs.check_node.Tie as tie

returns : tie.Need-returns-then-node-sizes
returns c = rw (lt-ltb _ _ c.if-node-sizes.true) refl

returns-2 : tie.Need-returns-else-node-sizes
returns-2 c = rw (le-ltb _ _ c.if-node-sizes.false) refl

pub check_node_spec : {M : Type 1} → statement M
check_node_spec = tie.close (tie.spec returns returns-2)
