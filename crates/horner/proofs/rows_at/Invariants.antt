-- `horner::rows_at` meets its contract. The loop's invariant: the value of the rows from i on.
-- Assumes nothing.
use Rattle.std.proofs.Common.{◌≡◌, length}
use Rattle.horner.proofs.Turns.{values_from}
use Rattle.horner.proofs.rows_at.Given as goal

abbrev pub invariant-loop-i : goal.invariant-loop-i
invariant-loop-i l = (l.acc ≡ values_from l.rows l.x l.d l.i) × (length l.acc ≡ 32)
