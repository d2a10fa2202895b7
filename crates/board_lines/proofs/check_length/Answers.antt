-- `board_lines::check_length` meets its contract: B is at most 992, so the product fits.
-- Assumes nothing.
use Rattle.std.proofs.Common.{◌≡◌, refl, ◌∙◌, arith}
use Rattle.sizes.specs.Sizing.{B}
use Rattle.sizes.proofs.Legal.{legal-facts, B-most}
use Rattle.board_lines.proofs.check_length.Goals as goal

pub overflow_mul-stripe_len : goal.overflow_mul-stripe_len
overflow_mul-stripe_len c =
    let stripe : c.stripe_len.result ≡ B c.args.sizes = c.stripe_len.ensures ∙ (rw c.requires refl) in
    omega (arith, stripe, B-most _ (legal-facts _ c.requires))
