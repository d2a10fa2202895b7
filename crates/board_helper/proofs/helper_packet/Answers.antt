-- `board_helper::helper_packet` meets its contract: it answers what its check refuses, and past it the packet is written.
-- Assumes nothing.
use Rattle.std.proofs.Common.{sym, ◌∙◌}
use Rattle.std.proofs.lemmas.Result.{err_from_is_err_and}
use Rattle.board_helper.proofs.Helps.{helps, helper-refuses, helper-works}
use Rattle.board_helper.proofs.helper_packet.Goals as goal

pub returns-in_err-check_helper : goal.returns-in_err-check_helper
returns-in_err-check_helper c =
    let a = c.args in
    let x = err_from_is_err_and c.from_residual.result c.from_residual.ensures.1 in
    rw (x.1, x.2) (helper-refuses a.sizes a.points a.len a.helper a.receiver a.held.now a.out.now (sym c.check_helper.ensures ∙ c.in_err-check_helper.was))

pub stripe_count-stripes-requires : goal.stripe_count-stripes-requires
stripe_count-stripes-requires c =
    let a = c.args in
    (helps a.sizes a.points a.len a.helper a.receiver a.held.now a.out.now (sym c.check_helper.ensures ∙ c.in_ok-check_helper.was)).stated

pub helper_packet-requires : goal.helper_packet-requires
helper_packet-requires c =
    let a = c.args in
    let f = helps a.sizes a.points a.len a.helper a.receiver a.held.now a.out.now (sym c.check_helper.ensures ∙ c.in_ok-check_helper.was) in
    let e = c.stripe_count-stripes.ensures in (
      f.stated.is-legal,
      f.points-taken.long,
      f.points-taken.differ,
      c.fill_inverses.ensures,
      e.1,
      f.helper-known,
      f.receiver-known,
      rw e.0 f.held-is,
      rw e.0 f.room,
    )

pub returns : goal.returns
returns c =
    let a = c.args in
    helper-works a.sizes a.points a.len a.helper a.receiver a.held.now a.out.now _ _ (sym c.check_helper.ensures ∙ c.in_ok-check_helper.was)
    c.stripe_count-stripes.ensures.0 c.helper_packet.ensures
