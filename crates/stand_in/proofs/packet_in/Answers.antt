-- `stand_in::packet_in` meets its contract: the factors, and the bytes by them.
-- Assumes nothing.
use Rattle.std.proofs.Common.{◌≡◌, sym, ap, ◌∙◌, ◌+◌, ◌-◌, ◌*◌, ◌<◌, ◌++◌, ℕ, List, length, drop, arith}
use Rattle.lists.proofs.Alls.{all_of}
use Rattle.sizes.specs.Sizing.{α}
use Rattle.sizes.proofs.Legal.{legal-facts}
use Rattle.stand_in.proofs.Seconds.{packet-is}
use Rattle.stand_in.proofs.packet_in.Goals as goal

pub overflow_add-w : goal.overflow_add-w
overflow_add-w c = let f = legal-facts _ c.requires.0 in omega arith

pub factors_from-requires : goal.factors_from-requires
factors_from-requires c =
    let p = c.requires in
    let f = legal-facts _ p.0 in
    (p.3, p.1, p.5, f.few, p.9, p.10, omega arith)

pub second_bytes-requires : goal.second_bytes-requires
second_bytes-requires c =
    let a = c.args in
    let p = c.requires in
    let f = legal-facts _ p.0 in
    let z = a.sizes in
    let held : z.d + z.r + z.d - 1 ≡ α z = omega arith in
    (omega arith, omega arith, p.7 ∙ ap (λ (m : ℕ). a.stripes * m) (sym held), omega arith, omega arith, omega arith, p.8)

pub returns : goal.returns
returns c =
    let a = c.args in
    let p = c.requires in
    let b = all_of (λ x. x < 256) 0 a.held.now (λ i l. omega (arith, c.type_inv.held i)) in
    c.second_bytes.ensures
    ∙ ap (λ (l : List ℕ). l ++ drop a.stripes a.out.now)
    (packet-is a.sizes a.points.now (legal-facts _ p.0) p.2 a.j a.i p.5 a.stripes (length a.gf.now) _ a.held.now p.9 c.factors_from.ensures p.7 b)
