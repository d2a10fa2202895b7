-- `lagrange_factors::factors_near` meets its contract: the callees' contracts, put together.
-- Assumes nothing.
use Rattle.std.proofs.Common.{length, rules}
use Rattle.lagrange_factors.proofs.Values.{boards-below, near-made}
use Rattle.lagrange_factors.proofs.factors_near.Goals as goal

pub factors-requires : goal.factors-requires
factors-requires c =
    let p = c.requires in
    let a = c.args in
    (p.0, p.1, rw c.boards_from.ensures (boards-below a.n a.j (length a.near.now) p.2 p.3), search rules, p.5, p.6)

pub returns : goal.returns
returns c =
    let a = c.args in
    near-made a.points.now _ _ a.n a.j a.i a.m (length a.near.now) (length a.out.now) c.boards_from.ensures c.requires.7 c.factors.ensures
