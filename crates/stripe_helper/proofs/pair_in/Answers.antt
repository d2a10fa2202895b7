-- `stripe_helper::pair_in` meets its contract: the callees' contracts, put together.
-- Assumes nothing.
use Rattle.std.proofs.Common.{◌≡◌, ap, length, arith}
use Rattle.stripe_helper.proofs.Packets.{pair_made}
use Rattle.stripe_helper.proofs.pair_in.Goals as goal

pub own_rows-requires : goal.own_rows-requires
own_rows-requires c =
    let p = c.requires in
    let f : length c.args.f.now ≡ 32 = ap length p.7 in
    let g : length c.args.g.now ≡ 32 = ap length p.8 in
    (p.0, p.1, p.2, omega arith, omega arith)

pub dot-a-requires : goal.dot-a-requires
dot-a-requires c = let f : length c.args.f.now ≡ 32 = ap length c.requires.7 in omega arith

pub dot-b-requires : goal.dot-b-requires
dot-b-requires c = let g : length c.args.g.now ≡ 32 = ap length c.requires.8 in omega arith

pub returns : goal.returns
returns c =
    let a = c.args in
    let e = c.own_rows.ensures in
    pair_made a.d a.w _ _ a.ff.now a.gf.now a.held.now _ a.f.now _ a.g.now c.requires.7 c.requires.8 e.0 e.1 c.dot-a.ensures c.dot-b.ensures
