-- `stripe_exchange::packet_in` meets its contract: the factors, and the bytes by them.
-- Assumes nothing.
use Rattle.std.proofs.Common.{ap, ◌∙◌, ◌<◌, ◌++◌, ℕ, List, length, drop, arith}
use Rattle.lists.proofs.Alls.{all_of}
use Rattle.sizes.proofs.Legal.{legal-facts}
use Rattle.lagrange_factors.proofs.Values.{below_more}
use Rattle.stripe_exchange.proofs.Packets.{packet-is}
use Rattle.stripe_exchange.proofs.packet_in.Goals as goal

pub factors-requires : goal.factors-requires
factors-requires c =
    let a = c.args in
    let p = c.requires in
    let f = legal-facts _ p.0 in
    (p.3, p.1, below_more a.sizes.n 32 a.helpers.now f.few p.6, omega arith, p.12, omega arith)

pub exchange_bytes-requires : goal.exchange_bytes-requires
exchange_bytes-requires c =
    let p = c.requires in
    let f = legal-facts _ p.0 in
    (omega arith, omega arith, p.4, p.8, p.10)

pub returns : goal.returns
returns c =
    let a = c.args in
    let p = c.requires in
    let b = all_of (λ x. x < 256) 0 a.packets.now (λ i l. omega (arith, c.type_inv.packets i)) in
    c.exchange_bytes.ensures
    ∙ ap (λ (l : List ℕ). l ++ drop a.stripes a.out.now)
    (packet-is a.sizes a.points.now p.2 a.stripes a.m (length a.ff.now) a.helpers.now a.packets.now _ p.5 p.6 p.7 p.11 b c.factors.ensures)
