-- `board_lines::put_points` meets its contract. The loop's invariant: the points so far, before what was there.
-- Assumes nothing.
use Rattle.std.proofs.Common.{◌≡◌, ◌++◌, length, drop, ltb}
use Rattle.lists.specs.Tests.{pick}
use Rattle.lists.specs.Lists.{tabulate}
use Rattle.board_lines.proofs.put_points.Given as goal

abbrev pub invariant-loop-i : goal.invariant-loop-i
invariant-loop-i l = (l.points ≡ tabulate l.i (λ j. pick (ltb j l.n) j 0) ++ drop l.i l.initial.points) × (length l.points ≡ length l.initial.points)
