-- `encode_values::column_values` meets its contract. The loop's invariant: the rows so far are in their places.
-- Assumes nothing.
use Rattle.std.proofs.Common.{◌≡◌, ℕ, ◌+◌, ◌*◌, ◌<◌, length, get_or, drop, ◌++◌, ap, ◌∙◌, arith}
use Rattle.lists.specs.Lists.{tabulate, join}
use Rattle.lists.proofs.Pieces.{length-tabulate, tabulate-all}
use Rattle.powers.specs.Steps.{power_row, power_rows}
use Rattle.powers.proofs.Turns.{powers-wide}
use Rattle.grid.proofs.Kept.{join-loop}
use Rattle.encode_values.proofs.Sums.{values-sum, length-values}
use Rattle.encode_values.proofs.column_values.Invariants.{column_values}
use Rattle.encode_values.proofs.column_values.Goals as goal

pub loop-l-preserved : goal.loop-l-preserved
loop-l-preserved c =
    λ xs lx t.
    let a = c.args in
    let l = c.loop-l in
    let f : ℕ → ℕ = λ i. get_or a.rows.now (i * 32 + l.l) 0 in
    let lr : length (power_rows xs a.d) ≡ a.d = length-tabulate a.d (power_row xs) in
    join-loop (column_values xs a.d a.rows.now) 32 l.l a.values.now l.values _
    (λ i h. length-values (tabulate a.d (λ j. get_or a.rows.now (j * 32 + i) 0)) xs lx)
    (c.put_row.ensures ∙ c.column_sum.ensures (power_rows xs a.d) (omega (arith, lr)) (powers-wide xs a.d lx) t
    ∙ values-sum (tabulate a.d f) xs a.d lx (omega (arith, length-tabulate a.d f))
    (tabulate-all (λ b. b < 256) a.d f (λ i h. omega (arith, c.type_inv.rows (i * 32 + l.l))))) (l.invariant xs lx t)

pub returns : goal.returns
returns c =
    λ xs lx t.
    let a = c.args in
    let e : c.loop-l.l ≡ a.n = omega arith in
    c.loop-l.invariant xs lx t ∙ ap (λ (m : ℕ). join m (column_values xs a.d a.rows.now) ++ drop (m * 32) a.values.now) e
