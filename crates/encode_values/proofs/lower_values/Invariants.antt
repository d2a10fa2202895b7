-- `encode_values::lower_values` meets its contract. The loop's invariant: the rows so far are in their places.
-- Assumes nothing.
use Rattle.std.proofs.Common.{◌≡◌, ℕ, List, ◌*◌, length, drop, ◌++◌}
use Rattle.lists.specs.Lists.{join, piece}
use Rattle.polynomial.specs.Polynomial.{evals}
use Rattle.row_sums.specs.Steps.{Tabled}
use Rattle.powers.specs.Steps.{power_rows}
use Rattle.encode_values.proofs.lower_values.Given as goal

abbrev pub invariant-loop-i : goal.invariant-loop-i
invariant-loop-i l =
    (xs : List ℕ) → length xs ≡ 32 → Tabled (power_rows xs l.k) l.tables → l.out ≡ join l.i (λ i. evals (piece l.k i l.u) xs) ++ drop (l.i * 32) l.initial.out
