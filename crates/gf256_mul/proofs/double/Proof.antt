-- `gf256_mul::double` meets its contract: a shift, and 1D for the bit that left.
-- Assumes nothing.
use borrow.Author.Rules.{rules}
use Rattle.gf256.specs.Field.{add}
use Rattle.gf256_mul.proofs.Steps.{double-is}
use Rattle.gf256_mul.proofs.double.Statement.{statement}
use Rattle.gf256_mul.proofs.double.Tie as tie

returns : tie.Need-returns
unfolding add
returns c = double-is c.args.a (search rules)

pub double_spec : {M : Type 1} → statement M
double_spec = tie.close (tie.spec
    (λ c. search rules)
    returns)
