-- `check_lists::all_out` meets its contract. The loop's invariant: the test of what is left is the test of the whole.
-- Assumes nothing.
use Rattle.std.proofs.Common.{not, sym, ap, ◌∙◌, drop_of_length-le}
use Rattle.lists.specs.Tests.{every}
use Rattle.store_lines.proofs.Walks.{every-no, every-next}
use Rattle.check_lists.proofs.all_out.Goals as goal

pub loop-board-preserved : goal.loop-board-preserved
loop-board-preserved c = every-next _ _ _ c.loop-board-test.true (ap not (sym c.mark_of.ensures ∙ c.if-mark_of.false)) ∙ c.loop-board.invariant

pub returns-then-mark_of : goal.returns-then-mark_of
returns-then-mark_of c = sym (every-no _ _ _ c.loop-board-test.true (ap not (sym c.mark_of.ensures ∙ c.if-mark_of.true))) ∙ c.loop-board.invariant

pub returns : goal.returns
returns c = sym (ap (every _) (drop_of_length-le _ c.loop-board-test.false)) ∙ c.loop-board.invariant
