-- `row_dots::dot` meets its contract: the sum of the products so far.
-- Assumes nothing.
use Rattle.std.proofs.Common.{◌≡◌, length, get_or, arith}
use Rattle.gf256.specs.Field.{add, mul}
use Rattle.row_dots.proofs.Rows.{sum-turn}
use Rattle.row_dots.proofs.dot.Goals as goal

pub loop-j-preserved : goal.loop-j-preserved
unfolding add
loop-j-preserved c = sum-turn (λ j. mul (get_or c.args.a.now j 0) (get_or c.args.b.now j 0)) c.loop-j.j c.loop-j.total _ c.loop-j.invariant (cc c.multiples_of.ensures.0)

pub returns : goal.returns
returns c =
    let e : c.loop-j.j ≡ length c.args.a.now = omega arith in
    rw (← e) c.loop-j.invariant
