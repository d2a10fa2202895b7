-- `rekeep::rekeep_boards` meets its contract. The loop's invariant: the boards so far are done.
-- Assumes nothing.
use Rattle.std.proofs.Common.{◌≡◌}
use Rattle.rekeep.specs.Steps.{rekept}
use Rattle.rekeep.proofs.rekeep_boards.Given as goal

abbrev pub invariant-loop-i : goal.invariant-loop-i
invariant-loop-i l = l.area ≡ rekept l.sizes l.points l.part l.stripes l.board l.y l.i l.initial.area
