-- `stripe_finish::finish` meets its contract: the callees' contracts, put together.
-- Assumes nothing.
use Rattle.std.proofs.Common.{refl, ◌+◌, length, arith}
use native.Mathlib.Nat.{mod-lt}
use Rattle.stripe_finish.proofs.Finished.{stripe-made}
use Rattle.stripe_finish.proofs.finish.Goals as goal

pub emit_turned-requires-2 : goal.emit_turned-requires-2
emit_turned-requires-2 c =
    let a = c.args in
    let p = c.requires in
    (rw c.next-next.ensures (mod-lt (a.i + 1) {m = a.n} (omega arith)), p.1, p.5)

pub returns : goal.returns
returns c =
    let a = c.args in
    let p = c.requires in
    stripe-made a.n a.i (length a.f.now) _ a.rows.now a.g.now a.got.now _ _ a.out.now _ _ c.next-next.ensures p.2 p.8 refl c.row_sums.ensures c.emit_turned.ensures
    c.emit_turned-2.ensures
