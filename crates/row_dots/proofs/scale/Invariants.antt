-- `row_dots::scale` meets its contract: the bytes so far are multiplied, and the rest is as it was.
-- Assumes nothing.
use Rattle.std.proofs.Common.{◌≡◌, ◌++◌, length, get_or, drop}
use Rattle.lists.specs.Lists.{tabulate}
use Rattle.gf256.specs.Field.{mul}
use Rattle.row_dots.proofs.scale.Given as goal

abbrev pub invariant-loop-byte : goal.invariant-loop-byte
invariant-loop-byte l = (l.byte-items ≡ tabulate l.byte-index (λ j. mul l.c (get_or l.fn.a j 0)) ++ drop l.byte-index l.fn.a) × (length l.byte-items ≡ length l.fn.a)
