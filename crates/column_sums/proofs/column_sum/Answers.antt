-- `column_sums::column_sum` meets its contract. The loop's invariant: the sum so far and what the rows left add are the whole sum.
-- Assumes nothing.
use Rattle.std.proofs.Common.{ℕ, ◌+◌, ◌*◌, List, [], ◌∙◌, ◌<◌, sym, ap, length, get_or, drop, add-one, arith}
use Rattle.std.proofs.Math.ListN.{drop_of_length-le}
use Rattle.lists.proofs.Pieces.{part-piece, length-tabulate, tabulate-at}
use Rattle.polynomial.specs.Polynomial.{plus, scale}
use Rattle.row_sums.specs.Steps.{row_bytes, combined}
use Rattle.row_sums.proofs.Words.{length-row}
use Rattle.row_sums.proofs.Tables.{wide_at, sum-start, sum-turn, sum-end}
use Rattle.column_sums.proofs.column_sum.Invariants.{bytes}
use Rattle.column_sums.proofs.column_sum.Goals as goal

pub loop-i-init : goal.loop-i-init
unfolding row_bytes
loop-i-init c = λ rows l w e. sum-start (bytes c.args.lines.now c.args.j c.args.m) rows w

pub loop-i-preserved : goal.loop-i-preserved
loop-i-preserved c = λ rows lr w e.
    let l = c.loop-i in
    let a = c.args in
    let cs : List ℕ = bytes a.lines.now a.j a.m in
    let i : ℕ = l.i in
    let hc : i < length cs = omega (arith, length-tabulate a.m (λ i. get_or a.lines.now (i * 32 + a.j) 0)) in
    let hr : i < length rows = omega (arith, lr) in
    ap (λ (k : ℕ). plus (row_bytes c.plus-sum.result) (combined (drop k cs) (drop k rows))) (add-one i)
    ∙ sum-turn (row_bytes l.sum) (row_bytes c.plus-sum.result) (row_bytes c.product-p.result) cs rows i hc hr c.plus-sum.ensures
    (c.product-p.ensures (get_or rows i []) (wide_at rows i w hr) (part-piece 512 i a.tables.now ∙ e i hr)
    ∙ ap (λ (b : ℕ). scale b (get_or rows i [])) (sym (tabulate-at a.m (λ i. get_or a.lines.now (i * 32 + a.j) 0) 0 i (omega arith))))
    ∙ l.invariant rows lr w e

pub returns : goal.returns
returns c = λ rows lr w e.
    let l = c.loop-i in
    let a = c.args in
    let cs : List ℕ = bytes a.lines.now a.j a.m in
    sym (sum-end (row_bytes l.sum) (drop l.i cs) (drop l.i rows) (length-row l.sum)
    (drop_of_length-le cs {i = l.i} (omega (arith, length-tabulate a.m (λ i. get_or a.lines.now (i * 32 + a.j) 0)))))
    ∙ l.invariant rows lr w e
