-- `column_sums::row_sum` meets its contract. The loop's invariant: the sum so far and what the rows left add are the whole sum.
-- Assumes nothing.
use Rattle.std.proofs.Common.{ℕ, List, [], ◌∙◌, ◌<◌, sym, ap, length, get_or, drop, add-one, arith}
use Rattle.std.proofs.Math.ListN.{drop_of_length-le}
use Rattle.lists.proofs.Pieces.{part-piece}
use Rattle.polynomial.specs.Polynomial.{plus}
use Rattle.row_sums.specs.Steps.{row_bytes, combined}
use Rattle.row_sums.proofs.Words.{length-row}
use Rattle.row_sums.proofs.Tables.{wide_at, sum-start, sum-turn, sum-end}
use Rattle.column_sums.proofs.row_sum.Goals as goal

pub loop-i-init : goal.loop-i-init
unfolding row_bytes
loop-i-init c = λ rows l w e. sum-start c.args.cs.now rows w

pub loop-i-preserved : goal.loop-i-preserved
loop-i-preserved c = λ rows lr w e.
    let l = c.loop-i in
    let cs : List ℕ = c.args.cs.now in
    let i : ℕ = l.i in
    let hr : i < length rows = omega (arith, lr) in
    ap (λ (k : ℕ). plus (row_bytes c.plus-sum.result) (combined (drop k cs) (drop k rows))) (add-one i)
    ∙ sum-turn (row_bytes l.sum) (row_bytes c.plus-sum.result) (row_bytes c.product-p.result) cs rows i (omega arith) hr c.plus-sum.ensures
    (c.product-p.ensures (get_or rows i []) (wide_at rows i w hr) (part-piece 512 i c.args.tables.now ∙ e i hr))
    ∙ l.invariant rows lr w e

pub returns : goal.returns
returns c = λ rows lr w e.
    let l = c.loop-i in
    let cs : List ℕ = c.args.cs.now in
    sym (sum-end (row_bytes l.sum) (drop l.i cs) (drop l.i rows) (length-row l.sum) (drop_of_length-le cs {i = l.i} (omega arith)))
    ∙ l.invariant rows lr w e
