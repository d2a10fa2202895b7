-- `gf256_rows::inverse` meets its contract: the body nests the products as `squares` does.
-- Assumes nothing.
use Rattle.gf256.specs.Field.{inverse, squares}
use Rattle.gf256_rows.proofs.inverse.Goals as goal

pub returns : goal.returns
unfolding inverse squares
returns c = cc
