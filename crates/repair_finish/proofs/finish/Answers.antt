-- `repair_finish::finish` meets its contract: the callees' contracts, put together.
-- Assumes nothing.
use Rattle.std.proofs.Common.{◌≡◌, refl, ◌+◌, ◌*◌, ◌-◌, length, take, drop, ℕ, arith}
use lib.ListN.{length-take, length-drop}
use Rattle.lists.proofs.Put.{part_end}
use Rattle.lists.proofs.Pieces.{part-piece}
use Rattle.sizes.specs.declared.Sizes.{Sizes}
use Rattle.sizes.proofs.Legal.{legal-facts}
use Rattle.lagrange_factors.proofs.Values.{board-below}
use Rattle.repair_hear.proofs.Heard.{cut-long}
use Rattle.repair_hear.proofs.Sent.{row-rest}
use Rattle.repair_sent.proofs.Finished.{stripe-made}
use Rattle.repair_finish.proofs.finish.Goals as goal

-- the bytes of the rows of one fresh board
abbrev one : Sizes → ℕ
one z = (z.d + (z.d + z.r)) * 32

pub gather-requires : goal.gather-requires
gather-requires c =
    let a = c.args in
    let p = c.requires in
    (p.0, p.2, omega (arith, board-below a.sizes.n a.fresh.now a.a p.5 p.8, p.1), p.8, p.6, p.7, p.9, p.4)

pub finish-requires : goal.finish-requires
finish-requires c =
    let a = c.args in
    let p = c.requires in
    let z = a.sizes in
    let f = legal-facts _ p.0 in
    let at : ℕ = a.a * one z in
    let l = c.gather.auto.got in
    let lg = cut-long a.lanes a.a (length a.fresh.now) a.gs.now p.8 p.7 in
    let lr : length (take (at + one z - (at + z.d * 32)) (drop (at + z.d * 32) a.rows.now)) ≡ (z.d + z.r) * 32 =
    simp (length-take, length-drop) (omega (arith, part_end a.a (one z) (length a.fresh.now) p.8, p.3)) in (
      board-below z.n a.fresh.now a.a p.5 p.8,
      f.few,
      omega (arith, l, p.9, f.some-fresh),
      omega (arith, l, p.9, f.enough, f.few),
      omega (arith, l, p.9, lr),
      omega (arith, lg, p.1),
      omega (arith, p.10, p.1),
      omega (arith, p.10, p.2),
      omega (arith, l, p.9, p.11, f.some_read, f.read-helpers),
    )

pub returns : goal.returns
returns c =
    let a = c.args in
    let p = c.requires in
    let z = a.sizes in
    let f = legal-facts _ p.0 in
    stripe-made z a.c a.lanes _ a.a _ _ (length a.got.now) _ a.rows.now a.fresh.now a.seconds.now a.gs.now _ _ _ _ refl
    c.finish.ensures (row-rest (one z) a.a (z.d * 32) a.rows.now (omega (arith, p, f))) (part-piece a.lanes a.a a.gs.now)
    c.gather.ensures p.10 (omega (arith, c.gather.auto.got, p)) c.gather.auto.got
