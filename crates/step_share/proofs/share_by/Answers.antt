-- `step_share::share_by` meets its contract: the stripes so far, before what was there.
-- Assumes nothing.
use Rattle.std.proofs.Common.{ℕ, List, ◌++◌, ◌∙◌, length, arith}
use Rattle.sizes.specs.Sizing.{α}
use Rattle.sizes.proofs.Legal.{legal-facts}
use Rattle.row_dots.proofs.Rows.{join-loop}
use Rattle.finish_bytes.specs.Steps.{stripe_by}
use Rattle.finish_bytes.proofs.Shares.{length-stripe}
use Rattle.step_share.proofs.Stripes.{stripe-heard}
use Rattle.step_share.proofs.share_by.Goals as goal

pub hear-requires : goal.hear-requires
hear-requires c =
    let p = c.requires in
    let l = c.loop-s in
    let f = legal-facts _ p.0 in
    (omega arith, p.2, c.loop-s-test.true, p.3, p.5, p.6, p.7, l.auto.firsts ∙ p.8, l.auto.got ∙ p.9)

pub loop-s-preserved : goal.loop-s-preserved
loop-s-preserved c =
    let l = c.loop-s in
    let a = c.args in
    let z = a.sizes in
    let sent : List ℕ = a.stood.now ++ a.exchanges.now in
    join-loop (λ s. stripe_by z a.i a.lanes a.rows.now a.stripes s a.packets.now sent) (α z) l.s a.out.now l.out _
    (λ t h. length-stripe z (legal-facts z c.requires.0) a.i a.lanes a.stripes t a.rows.now a.packets.now sent)
    (stripe-heard z a.i a.lanes (length l.f) a.stripes l.s _ (length l.got) a.rows.now a.packets.now sent _ _ _ c.finish_stripe.ensures
    (l.auto.f ∙ c.requires.13) c.hear.ensures.0 c.hear.ensures.1 c.hear.auto.got)
    l.invariant
