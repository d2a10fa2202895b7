-- `rekeep::rekeep_boards` meets its contract. The loop's invariant: the boards so far are done.
-- Assumes nothing.
use Rattle.std.proofs.Common.{refl}
use Rattle.rekeep.proofs.rekeep_boards.Goals as goal

pub loop-i-init : goal.loop-i-init
loop-i-init c = refl
