-- `decode_pairs::board_meets` meets its contract: the tests that are left are the tests of the whole.
-- Assumes nothing.
use Rattle.std.proofs.Common.{◌∙◌, refl, sym, ap₂, length}
use borrow.Author.Tests.{eq-eqb, ne_eqb}
use lib.Dec.{eqb}
use Rattle.decode_laws.specs.Steps.{board_meets}
use Rattle.decode_laws.proofs.Loops.{alls-no, alls-next, alls-end}
use Rattle.decode_pairs.proofs.board_meets.Goals as goal

pub loop-j-init : goal.loop-j-init
loop-j-init c = refl

pub returns-then-f-g : goal.returns-then-f-g
unfolding board_meets
returns-then-f-g c =
    let a = c.args in
    let l = c.loop-j in
    sym (sym l.invariant ∙ alls-no _ (length a.boards.now) l.j c.loop-j-test.true
    (sym (ap₂ eqb c.value_at-f.ensures c.value_at-g.ensures) ∙ ne_eqb _ _ c.if-f-g.true))

pub loop-j-preserved : goal.loop-j-preserved
loop-j-preserved c =
    let l = c.loop-j in
    alls-next _ (length c.args.boards.now) l.j c.loop-j-test.true
    (sym (ap₂ eqb c.value_at-f.ensures c.value_at-g.ensures) ∙ eq-eqb _ _ c.if-f-g.false) ∙ l.invariant

pub returns : goal.returns
unfolding board_meets
returns c = let l = c.loop-j in sym (sym l.invariant ∙ alls-end _ (length c.args.boards.now) l.j c.loop-j-test.false)
