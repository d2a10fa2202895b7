-- `Sizes::stripe_len` meets its contract: the product fits, since a stripe has at most 992 bytes.
-- Assumes nothing.
use borrow.Author.Rules.{rules}
use native.Mathlib.Omega.{arith}
use mathlib.Core.Path.{sym, ◌∙◌}
use Rattle.sizes.specs.Sizing.{B}
use Rattle.sizes.proofs.Legal.{Legal, legal-facts, B-most}
use Rattle.sizes.proofs.Sizes.stripe_len.Statement.{statement}
use Rattle.sizes.proofs.Sizes.stripe_len.Tie as tie

facts : (c : tie.Then-legal) → Legal c.before.before.args.self
facts c = legal-facts _ (sym c.before.legal.ensures ∙ c.if-legal.true)

mul-result : tie.Need-overflow_mul-result
mul-result c = omega (arith, facts c.before)

add-result : tie.Need-overflow_add-result
add-result c = omega (arith, facts c.before.before)

sub-result : tie.Need-overflow_sub-result
sub-result c = omega (arith, facts c.before.before.before)

mul-result-2 : tie.Need-overflow_mul-result-then-legal
unfolding B
mul-result-2 c =
    let f = facts c.before.before.before.before in
    omega (arith, B-most _ f)

abbrev at-if : tie.After-struct_known-then-legal-3-1 → tie.Then-legal
at-if c = c.before.before.before.before

returns : tie.Need-returns-then-legal
unfolding B
returns c = simp (← (at-if c).before.legal.ensures, (at-if c).if-legal.true)

returns-2 : tie.Need-returns-else-legal
unfolding B
returns-2 c = simp (← c.before.legal.ensures, c.if-legal.false)

pub stripe_len_spec : {M : Type 1} → statement M
stripe_len_spec =
    tie.close
    (tie.spec
    (λ c κs. search rules)
    mul-result
    add-result
    sub-result
    mul-result-2
    returns
    returns-2)
