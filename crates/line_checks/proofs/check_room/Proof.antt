-- `line_checks::check_room` meets its contract.
-- Assumes nothing.
use mathlib.Core.Path.{refl}
use borrow.Author.Tests.{lt-ltb, le-ltb}
use Rattle.line_checks.proofs.check_room.Statement.{statement}
use Rattle.line_checks.proofs.check_room.Tie as tie

returns : tie.Need-returns-then-output-count
returns c = rw (lt-ltb _ _ c.if-output-count.true) refl

returns-2 : tie.Need-returns-else-output-count
returns-2 c = rw (le-ltb _ _ c.if-output-count.false) refl

pub check_room_spec : {M : Type 1} → statement M
check_room_spec = tie.close (tie.spec returns returns-2)
