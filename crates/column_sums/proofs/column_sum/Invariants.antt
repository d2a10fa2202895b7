-- `column_sums::column_sum` meets its contract. The loop's invariant: the sum so far and what the rows left add are the whole sum.
-- Assumes nothing.
use Rattle.std.proofs.Common.{◌≡◌, ℕ, ◌+◌, ◌*◌, List, ◌≤◌, length, get_or, drop}
use Rattle.lists.specs.Lists.{tabulate}
use Rattle.polynomial.specs.Polynomial.{plus}
use Rattle.row_sums.specs.Steps.{row_bytes, Tabled, Wide, combined}
use Rattle.column_sums.proofs.column_sum.Given as goal

-- byte j of each line
abbrev pub bytes : List ℕ → ℕ → ℕ → List ℕ
bytes lines j m = tabulate m (λ i. get_or lines (i * 32 + j) 0)

abbrev pub invariant-loop-i : goal.invariant-loop-i
invariant-loop-i l =
    (rows : List (List ℕ)) → l.m ≤ length rows → Wide rows → Tabled rows l.tables
    → plus (row_bytes l.sum) (combined (drop l.i (bytes l.lines l.j l.m)) (drop l.i rows)) ≡ combined (bytes l.lines l.j l.m) rows
