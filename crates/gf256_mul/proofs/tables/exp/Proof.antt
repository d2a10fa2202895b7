-- `gf256_mul::tables::exp` meets its contract: one test over the whole table, which antt computes. It is the list that begins with 01 and in
-- which each entry is the one before times 02.
-- Assumes nothing.
use mathlib.Core.Path.{refl}
use borrow.Author.Rules.{rules}
use Rattle.gf256.specs.Field.{add, product, reduce, mul}
use Rattle.gf256_mul.specs.Tables.{doubled, powers}
use Rattle.gf256_mul.proofs.tables.exp.Statement.{statement}
use Rattle.gf256_mul.proofs.tables.exp.Tie as tie

returns : tie.Need-returns
unfolding add product reduce mul doubled powers
returns c = refl

pub exp_spec : {M : Type 1} → statement M
exp_spec = tie.close (tie.spec
    (λ c. search rules)
    returns)
