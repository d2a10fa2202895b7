-- `step_exchange::exchange_in` meets its contract: the factors, and the bytes by them.
-- Assumes nothing.
use Rattle.std.proofs.Common.{ap, ◌∙◌, ◌+◌, ◌-◌, ◌*◌, ◌<◌, ℕ, List, length, take, drop, arith}
use mathlib.Core.Path.{subst}
use Rattle.lists.specs.Lists.{Bytes, put}
use Rattle.lists.proofs.Alls.{all_of, take-alls, drop-alls}
use Rattle.sizes.proofs.Legal.{legal-facts}
use Rattle.lagrange_factors.proofs.Values.{below_more}
use Rattle.stripe_exchange.proofs.Packets.{packet-is}
use Rattle.step_exchange.proofs.Written.{heard-still}
use Rattle.step_exchange.proofs.exchange_in.Goals as goal

pub factors-requires : goal.factors-requires
factors-requires c =
    let a = c.args in
    let p = c.requires in
    let f = legal-facts _ p.0 in
    (p.3, p.1, below_more a.sizes.n 32 a.helpers.now f.few p.6, omega arith, p.12, omega arith)

pub bytes_at-requires : goal.bytes_at-requires
bytes_at-requires c =
    let p = c.requires in
    let f = legal-facts _ p.0 in
    (omega (arith, f.enough, f.few), omega arith, p.4, p.9, p.10)

pub returns : goal.returns
returns c =
    let a = c.args in
    let p = c.requires in
    let w : ℕ = a.sizes.d * (2 * a.stripes) in
    let b = all_of (λ x. x < 256) 0 c.bytes_at.new.packets (λ i l. omega (arith, c.type_inv.packets i)) in
    let heard : Bytes (take w (drop a.from a.packets.now)) =
    subst (λ (l : List ℕ). Bytes l) (heard-still a.packets.now c.bytes_at.new.packets a.at a.stripes a.from w _ p.10 p.9 c.bytes_at.ensures)
    (take-alls (λ x. x < 256) (a.from + w - a.from) (drop a.from c.bytes_at.new.packets) (drop-alls (λ x. x < 256) a.from c.bytes_at.new.packets b)) in
    c.bytes_at.ensures
    ∙ ap (put a.packets.now a.at)
    (packet-is a.sizes a.points.now p.2 a.stripes a.m (length a.ff.now) a.helpers.now (take w (drop a.from a.packets.now)) _ p.5 p.6 p.7 p.11 heard c.factors.ensures)
