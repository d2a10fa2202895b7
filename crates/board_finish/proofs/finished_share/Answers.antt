-- `board_finish::finished_share` meets its contract: it answers what its check refuses, and past it the share is written.
-- Assumes nothing.
use Rattle.std.proofs.Common.{sym, ◌∙◌, arith}
use Rattle.std.proofs.lemmas.Result.{err_from_is_err_and}
use Rattle.sizes.proofs.Legal.{legal-facts, α-most}
use Rattle.board_lines.proofs.Given.{as_many, few_bytes}
use Rattle.board_finish.proofs.Finishes.{finishes, finish-refuses, finish-works}
use Rattle.board_finish.proofs.finished_share.Goals as goal

pub returns-in_err-check_finish : goal.returns-in_err-check_finish
returns-in_err-check_finish c =
    let a = c.args in
    let x = err_from_is_err_and c.from_residual.result c.from_residual.ensures.1 in
    rw (x.1, x.2) (finish-refuses a.sizes a.points a.len a.board a.helpers.now a.packets.now a.partners.now a.exchanges.now a.out.now (sym c.check_finish.ensures ∙ c.in_err-check_finish.was))

pub stripe_count-stripes-requires : goal.stripe_count-stripes-requires
stripe_count-stripes-requires c =
    let a = c.args in
    (finishes a.sizes a.points a.len a.board a.helpers.now a.packets.now a.partners.now a.exchanges.now a.out.now (sym c.check_finish.ensures ∙ c.in_ok-check_finish.was)).stated

pub finished_share-requires : goal.finished_share-requires
finished_share-requires c =
    let a = c.args in
    let f = finishes a.sizes a.points a.len a.board a.helpers.now a.packets.now a.partners.now a.exchanges.now a.out.now (sym c.check_finish.ensures ∙ c.in_ok-check_finish.was) in
    let e = c.stripe_count-stripes.ensures in (
      f.stated.is-legal,
      f.points-taken.long,
      f.points-taken.differ,
      c.fill_inverses.ensures,
      e.1,
      rw e.0 f.packets-are,
      rw e.0 f.exchanges-are,
      f.helpers-enough,
      f.partners-enough,
      f.known,
      f.once,
      rw e.0 f.room,
    )

pub overflow_mul-result : goal.overflow_mul-result
overflow_mul-result c =
    let a = c.args in
    let ok = (finishes a.sizes a.points a.len a.board a.helpers.now a.packets.now a.partners.now a.exchanges.now a.out.now (sym c.check_finish.ensures ∙ c.in_ok-check_finish.was)).stated.is-legal in
    omega (arith, few_bytes _ c.share_len.result _ _ c.stripe_count-stripes.ensures.1 c.share_len.ensures ok (α-most _ (legal-facts _ ok)))

pub returns : goal.returns
returns c =
    let a = c.args in
    let passed = sym c.check_finish.ensures ∙ c.in_ok-check_finish.was in
    let e = c.stripe_count-stripes.ensures.0 in
    let ok = (finishes a.sizes a.points a.len a.board a.helpers.now a.packets.now a.partners.now a.exchanges.now a.out.now passed).stated.is-legal in
    finish-works a.sizes a.points a.len a.board a.helpers.now a.packets.now a.partners.now a.exchanges.now a.out.now _ _ _ passed e (as_many _ c.share_len.result _ _ _ e c.share_len.ensures ok) c.finished_share.ensures
