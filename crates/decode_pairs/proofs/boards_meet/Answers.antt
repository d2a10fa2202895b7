-- `decode_pairs::boards_meet` meets its contract: the tests that are left are the tests of the whole.
-- Assumes nothing.
use Rattle.std.proofs.Common.{◌∙◌, refl, sym, ap, length}
use mathlib.Core.Bool.{not}
use borrow.Author.Tests.{not-true, not-false}
use Rattle.decode_laws.specs.Steps.{boards_meet}
use Rattle.decode_laws.proofs.Loops.{alls-no, alls-next, alls-end}
use Rattle.decode_pairs.proofs.boards_meet.Goals as goal

pub loop-i-init : goal.loop-i-init
loop-i-init c = refl

pub returns-then-not-board_meets : goal.returns-then-not-board_meets
unfolding boards_meet
returns-then-not-board_meets c =
    let l = c.loop-i in
    sym (sym l.invariant ∙ alls-no _ (length c.args.boards.now) l.i c.loop-i-test.true
    (sym c.board_meets.ensures ∙ not-true c.board_meets.result (ap not c.if-not-board_meets.true)))

pub loop-i-preserved : goal.loop-i-preserved
loop-i-preserved c =
    let l = c.loop-i in
    alls-next _ (length c.args.boards.now) l.i c.loop-i-test.true
    (sym c.board_meets.ensures ∙ not-false c.board_meets.result (ap not c.if-not-board_meets.false)) ∙ l.invariant

pub returns : goal.returns
unfolding boards_meet
returns c = let l = c.loop-i in sym (sym l.invariant ∙ alls-end _ (length c.args.boards.now) l.i c.loop-i-test.false)
