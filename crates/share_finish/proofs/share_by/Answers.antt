-- `share_finish::share_by` meets its contract: the stripes so far, before what was there.
-- Assumes nothing.
use Rattle.std.proofs.Common.{ℕ, ◌∙◌, ap, arith}
use Rattle.sizes.specs.Sizing.{α}
use Rattle.sizes.proofs.Legal.{legal-facts}
use Rattle.row_dots.proofs.Rows.{join-loop}
use Rattle.finish_bytes.specs.Steps.{stripe_by}
use Rattle.finish_bytes.proofs.Shares.{length-stripe}
use Rattle.share_finish.proofs.share_by.Goals as goal

pub overflow_sub-a : goal.overflow_sub-a
overflow_sub-a c = let f = legal-facts _ c.requires.0 in omega arith

pub loop-s-preserved : goal.loop-s-preserved
loop-s-preserved c =
    let l = c.loop-s in
    let a = c.args in
    let z = a.sizes in
    join-loop (λ s. stripe_by z a.i a.lanes a.rows.now a.stripes s a.packets.now a.exchanges.now) (α z) l.s a.out.now l.out _
    (λ t h. length-stripe z (legal-facts z c.requires.0) a.i a.lanes a.stripes t a.rows.now a.packets.now a.exchanges.now)
    (c.stripe_by.ensures ∙ ap (λ (k : ℕ). stripe_by z a.i k a.rows.now a.stripes l.s a.packets.now a.exchanges.now) (l.auto.f ∙ c.requires.10)) l.invariant
