-- `repair_finish::all_g` meets its contract: the rows of the fresh boards so far, before what was there.
-- Assumes nothing.
use Rattle.std.proofs.Common.{◌≡◌, ◌++◌, ◌*◌, drop}
use Rattle.lists.specs.Lists.{join}
use Rattle.repair_sent.specs.Steps.{g_row}
use Rattle.repair_finish.proofs.all_g.Given as goal

abbrev pub invariant-loop-a : goal.invariant-loop-a
invariant-loop-a l = l.gs ≡ join l.a (g_row l.d l.one l.c l.lanes l.rows l.firsts) ++ drop (l.a * l.lanes) l.initial.gs
