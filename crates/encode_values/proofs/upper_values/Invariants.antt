-- `encode_values::upper_values` meets its contract. The loop's invariant: the rows so far are in their places.
-- Assumes nothing.
use Rattle.std.proofs.Common.{◌≡◌, ℕ, List, ◌*◌, length, drop, ◌++◌}
use Rattle.lists.specs.Lists.{join}
use Rattle.row_sums.specs.Steps.{Tabled}
use Rattle.powers.specs.Steps.{power_rows}
use Rattle.encode_values.proofs.Sums.{upper_values}
use Rattle.encode_values.proofs.upper_values.Given as goal

abbrev pub invariant-loop-i : goal.invariant-loop-i
invariant-loop-i l =
    (xs : List ℕ) → length xs ≡ 32 → Tabled (power_rows xs l.w) l.tables → l.out ≡ join l.i (upper_values xs l.k l.w l.u) ++ drop (l.i * 32) l.initial.out
