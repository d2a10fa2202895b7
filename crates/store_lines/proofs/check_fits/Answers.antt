-- `store_lines::check_fits` meets its contract: B is at most 992, so the product fits.
-- Assumes nothing.
use Rattle.std.proofs.Common.{◌≡◌, refl, ◌∙◌, arith}
use Rattle.sizes.specs.Sizing.{B}
use Rattle.sizes.proofs.Legal.{legal-facts, B-most}
use Rattle.store_lines.proofs.Sound.{few}
use Rattle.store_lines.proofs.check_fits.Goals as goal

pub overflow_mul-capacity : goal.overflow_mul-capacity
overflow_mul-capacity c =
    let r = c.requires in
    let stripe : c.stripe_len.result ≡ B c.args.sizes = c.stripe_len.ensures ∙ (rw r.is-legal refl) in
    omega (arith, few c.args.capacity c.stripe_len.result _ r.few stripe (B-most _ (legal-facts _ r.is-legal)))
