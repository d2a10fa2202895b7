-- `list_tests::check_named_counts` meets its contract: r − t is worked out only where t is at most r.
-- Assumes nothing.
use Rattle.std.proofs.Common.{◌-◌, arith}
use Rattle.list_tests.proofs.Lists.{few-named}
use Rattle.list_tests.proofs.check_named_counts.Goals as goal

pub overflow_mul-fresh : goal.overflow_mul-fresh
overflow_mul-fresh c =
    let a = c.args in
    omega (arith, few-named a.sizes a.fresh a.sizes.d c.requires (omega (arith, c.if-sizes-fresh.false)) (omega arith))

pub overflow_mul-fresh-2 : goal.overflow_mul-fresh-2
overflow_mul-fresh-2 c =
    let a = c.args in
    omega (arith, few-named a.sizes a.fresh (a.sizes.r - a.fresh) c.requires (omega (arith, c.if-sizes-fresh.false)) (omega arith))
