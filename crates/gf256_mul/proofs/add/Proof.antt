-- `gf256_mul::add` meets its contract: the sum is the exclusive or.
-- Assumes nothing.
use borrow.Author.Rules.{rules}
use Rattle.gf256.specs.Field.{add}
use Rattle.gf256_mul.proofs.add.Statement.{statement}
use Rattle.gf256_mul.proofs.add.Tie as tie

returns : tie.Need-returns
unfolding add
returns c = search rules

pub add_spec : {M : Type 1} → statement M
add_spec = tie.close (tie.spec returns)
