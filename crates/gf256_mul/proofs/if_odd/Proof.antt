-- `gf256_mul::if_odd` meets its contract: the lowest bit of v is 0 or 1.
-- Assumes nothing.
use Rattle.gf256_mul.proofs.Steps.{even, odd}
use Rattle.gf256_mul.proofs.if_odd.Statement.{statement}
use Rattle.gf256_mul.proofs.if_odd.Tie as tie

returns : tie.Need-returns-then-v-eq0
returns c = even c.before.args.v c.before.args.m c.if-v-eq0.true

returns-2 : tie.Need-returns-else-v-eq0
returns-2 c = odd c.before.args.v c.before.args.m c.if-v-eq0.false

pub if_odd_spec : {M : Type 1} → statement M
if_odd_spec = tie.close (tie.spec returns returns-2)
