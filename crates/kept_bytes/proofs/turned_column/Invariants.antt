-- `kept_bytes::turned_column` meets its contract. The loop's invariant: the bytes so far, before what was there, and b is the next board.
-- Assumes nothing.
use Rattle.std.proofs.Common.{◌≡◌, ◌+◌, ◌*◌, ◌%◌, ◌<◌, ◌++◌, length, get_or, drop}
use Rattle.kept_bytes.specs.Steps.{around}
use Rattle.kept_bytes.proofs.turned_column.Given as goal

abbrev pub invariant-loop-byte : goal.invariant-loop-byte
invariant-loop-byte l =
    (l.byte-items ≡ around l.n (λ b. get_or l.rows (b * 32 + l.i) 0) l.i l.byte-index ++ drop l.byte-index l.fn.out) × (l.b ≡ (l.i + l.byte-index) % l.n) × (l.b < l.n)
    × (length l.byte-items ≡ length l.fn.out)
