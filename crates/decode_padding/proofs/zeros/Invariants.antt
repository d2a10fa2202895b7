-- `decode_padding::zeros` meets its contract: the bytes that are left are 00 if all are.
-- Assumes nothing.
use Rattle.std.proofs.Common.{◌≡◌, drop}
use Rattle.decode_laws.specs.Steps.{zeros}
use Rattle.decode_padding.proofs.zeros.Given as goal

abbrev pub invariant-loop-i : goal.invariant-loop-i
invariant-loop-i l = zeros (drop l.i l.a) ≡ zeros l.a
