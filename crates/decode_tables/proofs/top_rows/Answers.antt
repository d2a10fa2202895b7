-- `decode_tables::top_rows` meets its contract: the rows so far, before what was there.
-- Assumes nothing.
use Rattle.std.proofs.Common.{ap, ◌∙◌, ℕ, ◌+◌, List, arith, length-take, length-drop}
use Rattle.lists.specs.Lists.{tabulate, fit}
use Rattle.lists.proofs.Pieces.{length-fit}
use Rattle.decode_laws.specs.Steps.{cell}
use Rattle.decode_laws.proofs.Loops.{join-loop, join-end}
use Rattle.decode_tables.proofs.top_rows.Goals as goal

pub loop-i-preserved : goal.loop-i-preserved
loop-i-preserved c =
    let a = c.args in
    let l = c.loop-i in
    let values : ℕ → List ℕ = λ i. tabulate a.m (λ s. cell a.rows.now s (a.k + i)) in
    join-loop (λ i. fit 32 (values i)) 32 l.i a.out.now l.out _ (λ i h. length-fit 32 (values i))
    (c.column.ensures ∙ ap (λ (n : ℕ). fit n (values l.i)) {y = 32} (simp (length-take, length-drop) (omega arith))) l.invariant

pub returns : goal.returns
returns c = join-end _ 32 c.loop-i.i c.args.count c.args.out.now c.loop-i.out (omega arith) c.requires.3 c.loop-i.invariant
