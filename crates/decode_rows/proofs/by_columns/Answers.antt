-- `decode_rows::by_columns` meets its contract: the rows so far, before what was there.
-- Assumes nothing.
use Rattle.std.proofs.Common.{◌+◌, ◌∙◌, arith}
use Rattle.decode_laws.specs.Steps.{cell, sums, by_columns}
use Rattle.decode_laws.proofs.Rows.{length-sums}
use Rattle.decode_laws.proofs.Loops.{join-loop, join-end}
use Rattle.decode_rows.proofs.Made.{each, length-each, each-wide, each-tabled, column-made}
use Rattle.decode_rows.proofs.by_columns.Goals as goal

pub loop-i-preserved : goal.loop-i-preserved
loop-i-preserved c =
    λ rows lr tr.
    let a = c.args in
    let l = c.loop-i in
    join-loop (λ i. sums a.m (λ s. cell a.a.now s (a.from + i)) rows) 32 l.i a.out.now l.out _ (λ i h. length-sums a.m _ rows)
    (c.put_row.ensures
    ∙ c.column_sum-row.ensures (each a.m rows a.tables.now lr tr) (omega (arith, length-each a.m rows a.tables.now lr tr))
    (each-wide a.m rows a.tables.now lr tr) (each-tabled a.m rows a.tables.now lr tr)
    ∙ column-made a.m rows a.tables.now lr tr (λ s. cell a.a.now s (a.from + l.i)))
    (l.invariant rows lr tr)

pub returns : goal.returns
unfolding by_columns
returns c =
    let a = c.args in
    let l = c.loop-i in
    λ rows lr tr. join-end (λ i. sums a.m (λ s. cell a.a.now s (a.from + i)) rows) 32 l.i a.count a.out.now l.out (omega arith) c.requires.4 (l.invariant rows lr tr)
