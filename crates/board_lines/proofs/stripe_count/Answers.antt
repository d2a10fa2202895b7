-- `board_lines::stripe_count` meets its contract: the sizes are legal, so the answer of `stripe_len` is B.
-- Assumes nothing.
use Rattle.std.proofs.Common.{◌≡◌, ◌+◌, ◌-◌, ◌/◌, ℕ, true, refl, ap, ◌∙◌, arith}
use Rattle.lists.specs.Tests.{pick}
use Rattle.sizes.specs.declared.Sizes.{Sizes}
use Rattle.sizes.specs.Sizing.{legal, B, stripes}
use Rattle.sizes.proofs.Legal.{legal-facts, B-pos, B-most, stripes-least}
use Rattle.board_lines.proofs.stripe_count.Goals as goal

stripe : {q : ℕ} (z : Sizes) → legal z ≡ true → q ≡ pick (legal z) (B z) 0 → q ≡ B z
stripe z ok e = e ∙ (rw ok refl)

counted : {q : ℕ} (z : Sizes) (L : ℕ) → q ≡ B z → (L + (q - 1)) / q ≡ stripes z L
unfolding stripes
counted z L e = ap (λ (b : ℕ). (L + (b - 1)) / b) e

pub overflow_sub-result : goal.overflow_sub-result
overflow_sub-result c = let ok = c.requires.is-legal in omega (arith, stripe _ ok c.stripe_len-stripe.ensures, B-pos _ (legal-facts _ ok))

pub overflow_add-result : goal.overflow_add-result
overflow_add-result c =
    let ok = c.requires.is-legal in
    let f = legal-facts _ ok in
    omega (arith, stripe _ ok c.stripe_len-stripe.ensures, B-most _ f, c.requires.not-long)

pub nonzero_div-result : goal.nonzero_div-result
nonzero_div-result c = let ok = c.requires.is-legal in omega (arith, stripe _ ok c.stripe_len-stripe.ensures, B-pos _ (legal-facts _ ok))

pub returns : goal.returns
returns c =
    let ok = c.requires.is-legal in
    let e = counted c.args.sizes c.args.len (stripe _ ok c.stripe_len-stripe.ensures) in
    (e, omega (arith, e, stripes-least c.args.sizes (legal-facts _ ok) c.args.len 4096 c.requires.not-long))
