-- `decode_rows::by_columns` meets its contract: the rows so far, before what was there.
-- Assumes nothing.
use Rattle.std.proofs.Common.{◌≡◌, ℕ, List, ◌+◌, ◌*◌, ◌≤◌, length, drop, ◌++◌}
use Rattle.lists.specs.Lists.{join}
use Rattle.decode_laws.specs.Steps.{cell, sums}
use Rattle.decode_rows.specs.Steps.{TabledRows}
use Rattle.decode_rows.proofs.by_columns.Given as goal

abbrev pub invariant-loop-i : goal.invariant-loop-i
invariant-loop-i l =
    (rows : List ℕ) → l.m * 32 ≤ length rows → TabledRows l.m rows l.tables
    → l.out ≡ join l.i (λ i. sums l.m (λ s. cell l.a s (l.from + i)) rows) ++ drop (l.i * 32) l.initial.out
