-- `stand_in::byte_in` meets its contract: 00 behind the bytes of g adds nothing.
-- Assumes nothing.
use Rattle.std.proofs.Common.{◌≡◌, ap, ◌++◌, length, take, drop, arith}
use Rattle.lagrange_factors.proofs.Values.{dot-row}
use Rattle.stand_in.proofs.byte_in.Goals as goal

pub own_rows-requires : goal.own_rows-requires
own_rows-requires c =
    let p = c.requires in
    let f : length c.args.f.now ≡ 32 = ap length p.6 in
    let g : length c.args.g.now ≡ 32 = ap length p.7 in
    (p.0, p.1, p.2, omega arith, omega arith)

pub returns : goal.returns
returns c =
    let a = c.args in
    dot-row a.gf.now (take 1 a.held.now ++ drop a.w a.held.now) _ a.g.now a.d _ c.requires.7 c.own_rows.ensures.1 c.dot.ensures
