-- `byte_factors::factors_near` meets its contract: the callees' contracts, put together.
-- Assumes nothing.
use Rattle.std.proofs.Common.{length, sym, ap, ◌∙◌}
use Rattle.lists.proofs.Pieces.{length-tabulate}
use Rattle.lagrange_factors.proofs.Values.{boards-below}
use Rattle.byte_factors.proofs.Products.{near-made}
use Rattle.byte_factors.proofs.factors_near.Goals as goal

pub points_of-requires : goal.points_of-requires
points_of-requires c =
    let p = c.requires in
    let a = c.args in
    let e = c.boards_from.ensures in (
      rw (p.1, e) (boards-below a.n a.j (length a.near.now) p.2 p.3),
      p.7 ∙ sym (ap length e ∙ length-tabulate (length a.near.now) _ ∙ p.6),
    )

pub returns : goal.returns
returns c =
    let a = c.args in
    near-made a.points.now _ _ _ a.n a.j a.y a.m (length a.near.now) (length a.out.now) c.boards_from.ensures c.requires.6
    c.points_of.ensures c.factors_of.ensures
