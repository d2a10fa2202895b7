-- `encode_values::lower_values` meets its contract. The loop's invariant: the rows so far are in their places.
-- Assumes nothing.
use Rattle.std.proofs.Common.{◌≡◌, ℕ, ◌*◌, ◌<◌, length, drop, ◌++◌, ap, ◌∙◌, arith}
use Rattle.lists.specs.Lists.{join, piece}
use Rattle.lists.proofs.Alls.{all_of}
use Rattle.lists.proofs.Pieces.{part-piece, length-tabulate}
use Rattle.polynomial.specs.Polynomial.{evals}
use Rattle.powers.specs.Steps.{power_rows}
use Rattle.powers.proofs.Turns.{powers-wide}
use Rattle.grid.proofs.Kept.{join-loop}
use Rattle.encode_values.proofs.Sums.{run-values, length-values}
use Rattle.encode_values.proofs.lower_values.Goals as goal

pub loop-i-preserved : goal.loop-i-preserved
loop-i-preserved c =
    λ xs lx t.
    let a = c.args in
    let l = c.loop-i in
    let lr : length (power_rows xs a.k) ≡ a.k = length-tabulate a.k _ in
    join-loop (λ i. evals (piece a.k i a.u.now) xs) 32 l.i a.out.now l.out _ (λ i h. length-values (piece a.k i a.u.now) xs lx)
    (c.put_row.ensures
    ∙ run-values xs a.u.now a.k l.i _ _ (all_of (λ b. b < 256) 0 a.u.now (λ i h. omega (arith, c.type_inv.u i))) lx
    (part-piece a.k l.i a.u.now) (c.row_sum.ensures (power_rows xs a.k) (omega (arith, lr)) (powers-wide xs a.k lx) t)) (l.invariant xs lx t)

pub returns : goal.returns
returns c =
    λ xs lx t.
    let a = c.args in
    let e : c.loop-i.i ≡ a.m = omega arith in
    c.loop-i.invariant xs lx t ∙ ap (λ (m : ℕ). join m (λ i. evals (piece a.k i a.u.now) xs) ++ drop (m * 32) a.out.now) e
