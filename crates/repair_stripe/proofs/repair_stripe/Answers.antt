-- `repair_stripe::repair_stripe` meets its contract: the callees' contracts, put together.
-- Assumes nothing.
use Rattle.std.proofs.Common.{sym, ◌∙◌, ◌+◌, ◌*◌, length, get_or, drop, arith}
use Rattle.lists.specs.Lists.{piece}
use Rattle.sizes.specs.Sizing.{α}
use Rattle.sizes.proofs.Legal.{legal-facts}
use Rattle.repair_hear.proofs.Heard.{few-runs}
use Rattle.repair_stripe.proofs.ByRows.{stripes-put}
use Rattle.repair_stripe.proofs.repair_stripe.Goals as goal

pub hear-requires : goal.hear-requires
hear-requires c =
    let a = c.args in
    let p = c.requires in
    let few = few-runs a.sizes (legal-facts _ p.0) (length a.fresh.now) a.c p.10 in
    (p.0, p.1, p.2, omega arith, omega arith, omega arith, p.8, p.9, p.19, p.13, p.14 ∙ sym p.12, p.15 ∙ sym p.12)

pub all_g-requires : goal.all_g-requires
all_g-requires c =
    let p = c.requires in
    (p.0, p.4, p.7, c.hear.auto.firsts ∙ p.14, p.16, p.10)

pub put_stripes-requires : goal.put_stripes-requires
put_stripes-requires c =
    let p = c.requires in
    (p.0, p.3, p.4, p.7, p.8, p.9, p.10, p.11, c.hear.auto.seconds ∙ p.15, c.all_g.auto.gs ∙ p.16, p.17, p.18, p.19)

pub returns : goal.returns
returns c =
    let a = c.args in
    let w = α a.sizes in
    stripes-put a.sizes a.fl a.gl a.lanes a.ff.now a.gf.now a.rows.now a.fresh.now a.c a.named.now
    (λ j. piece w a.s (drop (j * a.part) a.area.now)) (λ b. get_or a.fresh.now b 0 * a.part + a.s * w) (length a.fresh.now) a.area.now _ _ _ _
    c.hear.ensures.0 c.hear.ensures.1 c.all_g.ensures c.put_stripes.ensures
