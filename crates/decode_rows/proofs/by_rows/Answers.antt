-- `decode_rows::by_rows` meets its contract: the rows so far, before what was there.
-- Assumes nothing.
use Rattle.std.proofs.Common.{◌≡◌, ℕ, List, ◌+◌, ◌*◌, ◌-◌, length, get_or, take, drop, ◌∙◌, arith}
use lib.ListN.{length-take, length-drop}
use Rattle.sizes.proofs.Legal.{row_fits}
use Rattle.decode_laws.specs.Steps.{sums, by_rows}
use Rattle.decode_laws.proofs.Rows.{length-sums}
use Rattle.decode_laws.proofs.Loops.{join-loop, join-end}
use Rattle.decode_rows.proofs.Made.{each, length-each, each-wide, each-tabled, row_made}
use Rattle.decode_rows.proofs.by_rows.Goals as goal

pub loop-i-preserved : goal.loop-i-preserved
loop-i-preserved c =
    λ rows lr tr.
    let a = c.args in
    let l = c.loop-i in
    let e = row_fits l.i a.count a.m c.loop-i-test.true in
    let f : ℕ → List ℕ = λ i. sums a.m (λ s. get_or a.a.now (i * a.m + s) 0) rows in
    let n : length (take (l.i * a.m + a.m - l.i * a.m) (drop (l.i * a.m) a.a.now)) ≡ a.m = simp (length-take, length-drop) (omega arith) in
    join-loop f 32 l.i a.out.now l.out _ (λ i h. length-sums a.m _ rows)
    (c.put_row.ensures
    ∙ c.row_sum-row.ensures (each a.m rows a.tables.now lr tr) (omega (arith, length-each a.m rows a.tables.now lr tr))
    (each-wide a.m rows a.tables.now lr tr) (each-tabled a.m rows a.tables.now lr tr)
    ∙ row_made a.m rows a.tables.now lr tr a.a.now l.i (omega arith))
    (l.invariant rows lr tr)

pub returns : goal.returns
unfolding by_rows
returns c =
    let a = c.args in
    let l = c.loop-i in
    λ rows lr tr. join-end (λ i. sums a.m (λ s. get_or a.a.now (i * a.m + s) 0) rows) 32 l.i a.count a.out.now l.out (omega arith) c.requires.4 (l.invariant rows lr tr)
