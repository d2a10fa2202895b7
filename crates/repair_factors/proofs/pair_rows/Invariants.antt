-- `repair_factors::pair_rows` meets its contract: the helpers below h have their rows.
-- Assumes nothing.
use Rattle.std.proofs.Common.{◌≡◌}
use Rattle.repair_factors.proofs.Pairs.{rows_to}
use Rattle.repair_factors.proofs.pair_rows.Given as goal

abbrev pub invariant-loop-h : goal.invariant-loop-h
invariant-loop-h l = l.out ≡ rows_to l.points l.n l.d l.c l.fresh l.helpers l.initial.out l.h
