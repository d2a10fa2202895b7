-- `column_sums::row_sum` meets its contract. The loop's invariant: the sum so far and what the rows left add are the whole sum.
-- Assumes nothing.
use Rattle.std.proofs.Common.{◌≡◌, ℕ, List, ◌≤◌, length, drop}
use Rattle.polynomial.specs.Polynomial.{plus}
use Rattle.row_sums.specs.Steps.{row_bytes, Tabled, Wide, combined}
use Rattle.column_sums.proofs.row_sum.Given as goal

abbrev pub invariant-loop-i : goal.invariant-loop-i
invariant-loop-i l =
    (rows : List (List ℕ)) → length l.cs ≤ length rows → Wide rows → Tabled rows l.tables
    → plus (row_bytes l.sum) (combined (drop l.i l.cs) (drop l.i rows)) ≡ combined l.cs rows
