-- `decode_rows::parts` meets its contract: the parts so far, before what was there.
-- Assumes nothing.
use Rattle.std.proofs.Common.{◌≡◌, ◌*◌, take, drop, ◌++◌}
use Rattle.lists.specs.Lists.{join, piece}
use Rattle.decode_rows.proofs.parts.Given as goal

abbrev pub invariant-loop-i : goal.invariant-loop-i
invariant-loop-i l = l.out ≡ join l.i (λ i. take l.m (drop 0 (piece 32 i l.rows))) ++ drop (l.i * l.m) l.initial.out
