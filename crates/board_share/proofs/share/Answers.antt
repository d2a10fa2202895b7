-- `board_share::share` meets its contract: it answers what its check refuses, and past it the share is written.
-- Assumes nothing.
use Rattle.std.proofs.Common.{sym, ◌∙◌, arith}
use Rattle.std.proofs.lemmas.Result.{err_from_is_err_and}
use Rattle.sizes.proofs.Legal.{legal-facts, α-most}
use Rattle.board_lines.proofs.Given.{as_many, few_bytes}
use Rattle.board_share.proofs.ShareCall.{share-facts, share-refuses, share-works}
use Rattle.board_share.proofs.share.Goals as goal

pub returns-in_err-check_share : goal.returns-in_err-check_share
returns-in_err-check_share c =
    let a = c.args in
    let x = err_from_is_err_and c.from_residual.result c.from_residual.ensures.1 in
    rw (x.1, x.2) (share-refuses a.sizes a.points a.node a.file.now a.out.now (sym c.check_share.ensures ∙ c.in_err-check_share.was))

pub stripe_count-stripes-requires : goal.stripe_count-stripes-requires
stripe_count-stripes-requires c =
    let a = c.args in
    (share-facts a.sizes a.points a.node a.file.now a.out.now (sym c.check_share.ensures ∙ c.in_ok-check_share.was)).stated

pub overflow_mul-count : goal.overflow_mul-count
overflow_mul-count c =
    let a = c.args in
    let ok = (share-facts a.sizes a.points a.node a.file.now a.out.now (sym c.check_share.ensures ∙ c.in_ok-check_share.was)).stated.is-legal in
    omega (arith, few_bytes _ c.share_len.result _ _ c.stripe_count-stripes.ensures.1 c.share_len.ensures ok (α-most _ (legal-facts _ ok)))

pub share-requires : goal.share-requires
share-requires c =
    let a = c.args in
    let f = share-facts a.sizes a.points a.node a.file.now a.out.now (sym c.check_share.ensures ∙ c.in_ok-check_share.was) in
    let e = c.stripe_count-stripes.ensures in
    (f.stated.is-legal, omega (arith, f.known), omega (arith, (legal-facts _ f.stated.is-legal).few), e.0, e.1, rw e.0 f.room)

pub returns : goal.returns
returns c =
    let a = c.args in
    let e = c.stripe_count-stripes.ensures.0 in
    let passed = sym c.check_share.ensures ∙ c.in_ok-check_share.was in
    let ok = (share-facts a.sizes a.points a.node a.file.now a.out.now passed).stated.is-legal in
    share-works a.sizes a.points a.node a.file.now a.out.now _ _ _ passed e (as_many _ c.share_len.result _ _ _ e c.share_len.ensures ok) c.share.ensures
