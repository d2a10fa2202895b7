-- `stripe_helper::packet_in` meets its contract: the factors, and the pairs by them.
-- Assumes nothing.
use Rattle.std.proofs.Common.{◌≡◌, sym, ap, ◌∙◌, ◌+◌, ◌-◌, ◌*◌, ◌<◌, ◌++◌, ℕ, List, length, drop, arith}
use Rattle.lists.proofs.Alls.{all_of}
use Rattle.sizes.specs.Sizing.{α}
use Rattle.sizes.proofs.Legal.{legal-facts}
use Rattle.stripe_helper.proofs.Packets.{packet-is}
use Rattle.stripe_helper.proofs.packet_in.Goals as goal

pub factors_from-requires : goal.factors_from-requires
factors_from-requires c =
    let p = c.requires in
    let f = legal-facts _ p.0 in
    (p.3, p.1, p.5, f.few, omega arith, p.10, omega arith)

pub factors_from-requires-2 : goal.factors_from-requires-2
factors_from-requires-2 c =
    let p = c.requires in
    let f = legal-facts _ p.0 in
    (p.3, p.1, p.5, f.few, p.11, p.12, omega arith)

pub pairs-requires : goal.pairs-requires
pairs-requires c =
    let a = c.args in
    let p = c.requires in
    let f = legal-facts _ p.0 in
    let z = a.sizes in
    let held : z.d + z.r + z.d - 1 ≡ α z = omega arith in
    (omega arith, omega arith, p.7 ∙ ap (λ (m : ℕ). a.stripes * m) (sym held), omega arith, omega arith, omega arith, omega arith, p.8)

pub returns : goal.returns
returns c =
    let a = c.args in
    let p = c.requires in
    let b = all_of (λ x. x < 256) 0 a.held.now (λ i l. omega (arith, c.type_inv.held i)) in
    c.pairs.ensures
    ∙ ap (λ (l : List ℕ). l ++ drop (2 * a.stripes) a.out.now)
    (packet-is a.sizes a.points.now (legal-facts _ p.0) p.2 a.j a.i p.5 a.stripes (length a.ff.now) (length a.gf.now) _ _ a.held.now p.9 p.11
    c.factors_from.ensures c.factors_from-2.ensures p.7 b)
