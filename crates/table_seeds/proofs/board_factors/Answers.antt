-- `table_seeds::board_factors` meets its contract: the rows so far, before what was there.
-- Assumes nothing.
use Rattle.std.proofs.Common.{ap, ◌∙◌, ℕ, ◌-◌, ◌+◌, ◌%◌, List, arith, length-take, length-drop}
use Rattle.lists.specs.Lists.{tabulate, fit}
use Rattle.lists.proofs.Pieces.{length-fit}
use Rattle.decode_laws.specs.Steps.{cell}
use Rattle.decode_laws.proofs.Loops.{join-loop, join-end}
use Rattle.table_seeds.proofs.board_factors.Goals as goal

pub loop-o-preserved : goal.loop-o-preserved
loop-o-preserved c =
    let a = c.args in
    let l = c.loop-o in
    let values : ℕ → List ℕ = λ o. tabulate a.c (λ t. cell a.rows.now t ((a.b + (a.c + o)) % a.sizes.n)) in
    join-loop (λ o. fit 32 (values o)) 32 l.o a.out.now l.out _ (λ i h. length-fit 32 (values i))
    (c.column.ensures ∙ ap (λ (n : ℕ). fit n (values l.o)) {y = 32} (simp (length-take, length-drop) (omega arith))) l.invariant

pub returns : goal.returns
returns c = join-end _ 32 c.loop-o.o (c.args.sizes.n - c.args.c) c.args.out.now c.loop-o.out (omega arith) c.requires.4 c.loop-o.invariant
