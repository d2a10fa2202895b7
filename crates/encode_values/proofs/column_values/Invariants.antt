-- `encode_values::column_values` meets its contract. The loop's invariant: the rows so far are in their places.
-- Assumes nothing.
use Rattle.std.proofs.Common.{◌≡◌, ℕ, List, ◌+◌, ◌*◌, length, get_or, drop, ◌++◌}
use Rattle.lists.specs.Lists.{tabulate, join}
use Rattle.polynomial.specs.Polynomial.{evals}
use Rattle.row_sums.specs.Steps.{Tabled}
use Rattle.powers.specs.Steps.{power_rows}
use Rattle.encode_values.proofs.column_values.Given as goal

-- row l: the values of the polynomial of the bytes l
abbrev pub column_values : List ℕ → ℕ → List ℕ → ℕ → List ℕ
column_values xs d rows l = evals (tabulate d (λ i. get_or rows (i * 32 + l) 0)) xs

abbrev pub invariant-loop-l : goal.invariant-loop-l
invariant-loop-l l =
    (xs : List ℕ) → length xs ≡ 32 → Tabled (power_rows xs l.d) l.tables → l.values ≡ join l.l (column_values xs l.d l.rows) ++ drop (l.l * 32) l.initial.values
