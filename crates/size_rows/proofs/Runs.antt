-- How many bytes the lines of a walk have at most.
-- Assumes nothing.
use mathlib.Core.Path.{ap}
use Prim.Native.Nat.{ℕ, zero, suc, ◌*◌, ◌≤◌}
use native.Mathlib.Nat.{suc-mul}
use native.Mathlib.Omega.{arith}
use lib.ListN.{length, length-append}
use Rattle.sizes.proofs.Legal.{legal-facts}
use Rattle.size_list.specs.Combinations.{row, rows}
use Rattle.std.specs.Prelude.{Some, None}
use Rattle.size_steps.specs.Steps.{Place, next_of, met, LegalPlace}
use Rattle.size_steps.proofs.Walk.{one_line, legal-next}
use Rattle.size_rows.proofs.Lines.{row-most}

-- one line
pub line-most : (N : ℕ) (p : Place) → LegalPlace p → length (rows (met N 1 p)) ≤ 40
line-most N (Some z) h = omega (arith, ap length (one_line N z), row-most z (legal-facts z h))
line-most N None h = omega arith

-- a run of lines has at most 40 bytes for each step
pub rows-most : (N : ℕ) → N ≤ 32 → (m : ℕ) (p : Place) → LegalPlace p → length (rows (met N m p)) ≤ m * 40
rows-most N h zero p g = omega arith
rows-most N h (suc m) (Some z) g =
    let k = rows-most N h m (next_of N z) (legal-next N h z (legal-facts z g)) in
    omega (arith, length-append (row z) (rows (met N m (next_of N z))), row-most z (legal-facts z g), k, suc-mul m 40)
rows-most N h (suc m) None g = omega arith
