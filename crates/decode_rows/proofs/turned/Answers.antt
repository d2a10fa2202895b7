-- `decode_rows::turned` meets its contract: the columns so far, before what was there.
-- Assumes nothing.
use Rattle.std.proofs.Common.{◌≡◌, ℕ, ◌+◌, ◌*◌, ◌-◌, length, take, drop, ap, ◌∙◌, arith}
use lib.ListN.{length-take, length-drop}
use Rattle.lists.specs.Lists.{tabulate}
use Rattle.lists.proofs.Pieces.{length-tabulate}
use Rattle.sizes.proofs.Legal.{row_fits}
use Rattle.decode_laws.specs.Steps.{cell, turned}
use Rattle.decode_laws.proofs.Loops.{join-loop, join-end}
use Rattle.decode_rows.proofs.turned.Goals as goal

pub loop-i-preserved : goal.loop-i-preserved
loop-i-preserved c =
    let a = c.args in
    let l = c.loop-i in
    let e = row_fits l.i a.count a.m c.loop-i-test.true in
    let n : length (take (l.i * a.m + a.m - l.i * a.m) (drop (l.i * a.m) l.out)) ≡ a.m = simp (length-take, length-drop) (omega arith) in
    join-loop (λ i. tabulate a.m (λ j. cell a.rows.now (a.from + j) i)) a.m l.i a.out.now l.out _ (λ i h. length-tabulate a.m (λ j. cell a.rows.now (a.from + j) i))
    (c.gather.ensures ∙ ap (λ (m : ℕ). tabulate m (λ j. cell a.rows.now (a.from + j) l.i)) n)
    l.invariant

pub returns : goal.returns
unfolding turned
returns c =
    let a = c.args in
    join-end (λ i. tabulate a.m (λ j. cell a.rows.now (a.from + j) i)) a.m c.loop-i.i a.count a.out.now c.loop-i.out (omega arith) c.requires.4 c.loop-i.invariant
