-- `row_sums::plus` meets its contract.
-- Assumes nothing.
use Rattle.row_sums.proofs.Words.{row-plus}
use Rattle.row_sums.proofs.plus.Goals as goal

pub returns : goal.returns
returns c = row-plus c.args.x c.args.y
