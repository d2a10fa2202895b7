-- `finish_bytes::gather` meets its contract: the callees' contracts, put together.
-- Assumes nothing.
use Rattle.finish_bytes.proofs.Shares.{gather-made}
use borrow.Author.Rules.{rules}
use Rattle.finish_bytes.proofs.gather.Statement.{statement}
use Rattle.finish_bytes.proofs.gather.Tie as tie

-- places in the code
abbrev st-at-received : tie.After-received → tie.Start
st-at-received c = c.before.before.before.before.before

-- the places
abbrev received-at-slice-known3 : tie.After-slice_known-3-1 → tie.After-received
received-at-slice-known3 c = c.before.before.before.before.before.before

returns : tie.Need-returns
returns c =
    let g = st-at-received (received-at-slice-known3 c) in
    let a = g.args in
    gather-made a.sizes a.stripes a.s a.packets.now a.exchanges.now a.f.now _ _ g.requires.0 g.requires.5 (received-at-slice-known3 c).received.ensures
    c.before.before.exchanged.ensures

pub gather_spec : {M : Type 1} → statement M
gather_spec =
    tie.close
    (tie.spec
    (λ c. search rules)
    (λ c. search rules)
    (λ c. search rules)
    (λ c. search rules)
    (λ c κs. search rules)
    (λ c. search rules)
    (λ c. search rules)
    (λ c. search rules)
    (λ c κs. search rules)
    (λ c. search rules)
    returns)
