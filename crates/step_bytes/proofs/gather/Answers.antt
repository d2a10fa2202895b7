-- `step_bytes::gather` meets its contract: the callees' contracts, put together.
-- Assumes nothing.
use Rattle.step_bytes.proofs.Sent.{gathered}
use Rattle.step_bytes.proofs.gather.Goals as goal

pub returns : goal.returns
returns c =
    let a = c.args in
    let p = c.requires in
    gathered a.sizes a.stripes a.s a.e a.packets.now a.stood.now a.exchanges.now a.got.now _ _ _ p.1 p.2 p.5 p.7 c.received.ensures c.sent_bytes.ensures
    c.sent_bytes-2.ensures
