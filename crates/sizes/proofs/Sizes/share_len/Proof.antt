-- `Sizes::share_len` meets its contract: the sums fit by the facts of legal sizes.
-- Assumes nothing.
use borrow.Author.Rules.{rules}
use native.Mathlib.Omega.{arith}
use mathlib.Core.Path.{sym, ◌∙◌}
use Rattle.sizes.proofs.Legal.{Legal, legal-facts}
use Rattle.sizes.proofs.Sizes.share_len.Statement.{statement}
use Rattle.sizes.proofs.Sizes.share_len.Tie as tie

facts : (c : tie.Then-legal) → Legal c.before.before.args.self
facts c = legal-facts _ (sym c.before.legal.ensures ∙ c.if-legal.true)

mul-result : tie.Need-overflow_mul-result
mul-result c = omega (arith, facts c.before)

add-result : tie.Need-overflow_add-result
add-result c = omega (arith, facts c.before.before)

sub-result : tie.Need-overflow_sub-result
sub-result c = omega (arith, facts c.before.before)

returns : tie.Need-returns-then-legal
returns c = simp (← c.before.before.before.legal.ensures, c.before.before.if-legal.true)

returns-2 : tie.Need-returns-else-legal
returns-2 c = simp (← c.before.legal.ensures, c.if-legal.false)

pub share_len_spec : {M : Type 1} → statement M
share_len_spec =
    tie.close (tie.spec
    (λ c κs. search rules)
    mul-result
    add-result
    sub-result
    returns
    returns-2)
