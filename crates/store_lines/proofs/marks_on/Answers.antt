-- `store_lines::marks_on` meets its contract. The loop's invariant: the boards that are left make of the marks what all make of the first.
-- Assumes nothing.
use Rattle.std.proofs.Common.{ℕ, ◌<◌, List, length, length-set, drop_of_length-le, sym, ap, ◌∙◌, arith}
use Rattle.lists.proofs.Alls.{all-at}
use Rattle.lists.proofs.Boards.{below_all}
use Rattle.store_spec.specs.Record.{turn_on}
use Rattle.store_lines.proofs.Repairs.{turn-next}
use Rattle.store_lines.proofs.marks_on.Goals as goal

pub bounds-marks-board : goal.bounds-marks-board
bounds-marks-board c =
    let n = length c.args.marks.now in
    omega (arith, all-at (λ x. x < n) 0 c.args.boards.now (below_all n c.args.boards.now c.requires) c.loop-board.board-index c.loop-board-test.true, c.loop-board.invariant.1)

pub loop-board-preserved : goal.loop-board-preserved
loop-board-preserved c =
    let l = c.loop-board in
    (turn-next c.args.boards.now l.marks l.board-index c.loop-board-test.true ∙ l.invariant.0, length-set l.marks _ _ ∙ l.invariant.1)

pub returns : goal.returns
returns c =
    let l = c.loop-board in
    ap (λ (r : List ℕ). turn_on r l.marks) (sym (drop_of_length-le c.args.boards.now {i = l.board-index} c.loop-board-test.false)) ∙ l.invariant.0
