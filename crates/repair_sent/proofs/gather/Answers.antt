-- `repair_sent::gather` meets its contract: the callees' contracts, put together.
-- Assumes nothing.
use Rattle.std.proofs.Common.{sym, ap, ◌∙◌, ◌*◌, ℕ, arith}
use Rattle.lists.proofs.Put.{part_end}
use Rattle.lists.proofs.Pieces.{part-piece, length-piece}
use Rattle.sizes.proofs.Legal.{legal-facts}
use Rattle.repair_sent.proofs.Finished.{partners-room, gather-made}
use Rattle.repair_sent.proofs.gather.Goals as goal

pub sent-requires : goal.sent-requires
sent-requires c =
    let a = c.args in
    let p = c.requires in
    let f = legal-facts _ p.0 in
    let w = p.7.whole in
    let run = length-piece a.c a.a a.seconds.now (omega (arith, part_end a.a a.c a.t p.3, p.4)) in
    let m = partners-room a.c a.t a.a a.seconds.now a.got.now _ _ p.7.some (p.6 ∙ sym w) run (part-piece a.c a.a a.seconds.now) c.copy.ensures in
    (p.1, p.2, omega arith, p.5 ∙ ap (λ (n : ℕ). n * a.lanes) (sym m))

pub returns : goal.returns
returns c =
    let a = c.args in
    let p = c.requires in
    let run = length-piece a.c a.a a.seconds.now (omega (arith, part_end a.a a.c a.t p.3, p.4)) in
    gather-made a.c a.t a.a a.seconds.now a.got.now _ _ p.7.some (p.6 ∙ sym p.7.whole) run (part-piece a.c a.a a.seconds.now) c.copy.ensures
    a.lanes a.i a.gs.now _ c.sent.ensures
