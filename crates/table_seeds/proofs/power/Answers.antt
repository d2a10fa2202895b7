-- `table_seeds::power` meets its contract: the power so far.
-- Assumes nothing.
use Rattle.std.proofs.Common.{sym, ap, ◌∙◌, add-one}
use Rattle.gf256.specs.Field.{mul}
use Rattle.polynomial.specs.Polynomial.{power}
use Rattle.table_seeds.proofs.power.Goals as goal

pub loop-preserved : goal.loop-preserved
loop-preserved c = c.product-acc.ensures ∙ ap (mul c.args.x) c.loop.invariant ∙ ap (power c.args.x) (sym (add-one c.loop.counter))
