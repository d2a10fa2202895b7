-- `board_exchange::exchange_packet` meets its contract: it answers what its check refuses, and past it the packet is written.
-- Assumes nothing.
use Rattle.std.proofs.Common.{sym, ◌∙◌}
use Rattle.std.proofs.lemmas.Result.{err_from_is_err_and}
use Rattle.board_exchange.proofs.Exchanges.{exchanges, exchange-refuses, exchange-works}
use Rattle.board_exchange.proofs.exchange_packet.Goals as goal

pub returns-in_err-check_exchange : goal.returns-in_err-check_exchange
returns-in_err-check_exchange c =
    let a = c.args in
    let x = err_from_is_err_and c.from_residual.result c.from_residual.ensures.1 in
    rw (x.1, x.2) (exchange-refuses a.sizes a.points a.len a.board a.helpers.now a.packets.now a.receiver a.out.now (sym c.check_exchange.ensures ∙ c.in_err-check_exchange.was))

pub stripe_count-stripes-requires : goal.stripe_count-stripes-requires
stripe_count-stripes-requires c =
    let a = c.args in
    (exchanges a.sizes a.points a.len a.board a.helpers.now a.packets.now a.receiver a.out.now (sym c.check_exchange.ensures ∙ c.in_ok-check_exchange.was)).stated

pub exchange_packet-requires : goal.exchange_packet-requires
exchange_packet-requires c =
    let a = c.args in
    let f = exchanges a.sizes a.points a.len a.board a.helpers.now a.packets.now a.receiver a.out.now (sym c.check_exchange.ensures ∙ c.in_ok-check_exchange.was) in
    let e = c.stripe_count-stripes.ensures in (
      f.stated.is-legal,
      f.points-taken.long,
      f.points-taken.differ,
      c.fill_inverses.ensures,
      e.1,
      f.enough,
      f.known,
      f.once,
      rw e.0 f.packets-are,
      f.receiver-known,
      rw e.0 f.room,
    )

pub returns : goal.returns
returns c =
    let a = c.args in
    exchange-works a.sizes a.points a.len a.board a.helpers.now a.packets.now a.receiver a.out.now _ _ (sym c.check_exchange.ensures ∙ c.in_ok-check_exchange.was) c.stripe_count-stripes.ensures.0 c.exchange_packet.ensures
