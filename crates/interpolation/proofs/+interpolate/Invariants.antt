-- `interpolation::interpolate` ends: each call is on a shorter list.
-- Assumes nothing.
use Rattle.std.proofs.Common.{length}
use Rattle.interpolation.proofs.+interpolate.Given as goal

abbrev pub decreases-interpolate : goal.decreases-interpolate
decreases-interpolate l = length l.xs.now
