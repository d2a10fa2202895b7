-- `stripe_exchange::byte_in` meets its contract: 00 behind the bytes that came adds nothing.
-- Assumes nothing.
use Rattle.std.proofs.Common.{◌≡◌, ap, ◌-◌, ◌++◌, ℕ, List, length, drop, length-take, arith}
use Rattle.mbcr.specs.Rebuild.{received}
use Rattle.lagrange_factors.proofs.Values.{dot-row}
use Rattle.stripe_exchange.proofs.byte_in.Goals as goal

pub received-requires : goal.received-requires
received-requires c =
    let p = c.requires in
    let l : length c.args.vs.now ≡ 32 = ap length p.5 in
    (omega arith, p.2, p.3, p.4, simp length-take (omega arith))

pub returns : goal.returns
returns c =
    let a = c.args in
    let came : List ℕ = received a.sizes a.stripes 0 a.s a.packets.now in
    dot-row a.ff.now came _ a.vs.now (a.sizes.d - 0) _ c.requires.5 (ap (λ (l : List ℕ). l ++ drop (a.sizes.d - 0) a.vs.now) c.received.ensures) c.dot.ensures
