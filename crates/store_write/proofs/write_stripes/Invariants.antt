-- `store_write::write_stripes` meets its contract. The loop's invariant: the stripes so far of all boards are in their places.
-- Assumes nothing.
use Rattle.std.proofs.Common.{◌≡◌, List, ℕ, ◌+◌, ◌*◌, length}
use Rattle.lists.specs.Lists.{join}
use Rattle.mbcr.specs.Share.{stripe, kept}
use Rattle.row_sums.specs.Steps.{Tabled}
use Rattle.powers.specs.Steps.{power_rows}
use Rattle.area_puts.specs.Steps.{puts}
use Rattle.store_write.proofs.write_stripes.Given as goal

abbrev pub invariant-loop-s : goal.invariant-loop-s
invariant-loop-s l =
    ((xs : List ℕ) → length xs ≡ 32 → Tabled (power_rows xs (l.sizes.d + l.sizes.r)) l.tables
    → l.area ≡ puts (λ i. i * l.part) (λ i. join l.s (λ t. kept l.sizes xs (stripe l.sizes l.file t) i)) l.sizes.n l.initial.area)
    × (length l.rows ≡ 992) × (length l.values ≡ 1024) × (length l.area ≡ length l.initial.area)
