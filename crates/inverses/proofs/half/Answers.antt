-- `inverses::half` meets its contract: half, and 8E for the bit that left.
-- Assumes nothing.
use Rattle.std.proofs.Common.{refl}
use Rattle.gf256.specs.Field.{add}
use Rattle.inverse_walk.specs.Steps.{halved}
use Rattle.inverses.proofs.half.Goals as goal

pub returns : goal.returns
unfolding add halved
returns c = refl
