-- `gf256_mul::tables::log` meets its contract: one test over the whole table, which antt computes. It has the place of each byte but 00 among
-- the powers.
-- Assumes nothing.
use borrow.Author.Rules.{rules}
use Rattle.gf256.specs.Field.{add, product, reduce, mul}
use Rattle.gf256_mul.specs.Tables.{doubled, powers, place, logarithm}
use Rattle.gf256_mul.proofs.Powers.{logarithms, logarithm-table, table_at}
use Rattle.gf256_mul.proofs.tables.log.Statement.{statement}
use Rattle.gf256_mul.proofs.tables.log.Tie as tie

returns : tie.Need-returns
unfolding add product reduce mul doubled powers place logarithm logarithms logarithm-table
returns c = table_at c.args.a c.requires (search rules)

pub log_spec : {M : Type 1} → statement M
log_spec = tie.close (tie.spec
    (λ c. search rules)
    returns)
