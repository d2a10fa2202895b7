-- `stripe_holds::stripe_after` meets its contract.
-- Assumes nothing.
use mathlib.Core.Path.{sym}
use native.Mathlib.Omega.{arith}
use borrow.Author.Rules.{rules}
use Rattle.stripe_holds.proofs.Turned.{turned_none, turned_on, turned_round}
use Rattle.stripe_holds.proofs.stripe_after.Statement.{statement}
use Rattle.stripe_holds.proofs.stripe_after.Tie as tie

pub stripe_after_spec : {M : Type 1} → statement M
stripe_after_spec =
    tie.close
    (tie.spec
    (λ c. let a = c.before.args in sym (turned_none a.from a.stripes a.t c.if-from-stripes.true))
    (λ c. search rules)
    (λ c. search rules)
    (λ c. search rules)
    (λ c. search rules)
    (λ c. let a = c.before.before.args in sym (turned_on a.from a.stripes a.t (omega (arith, c.before.if-from-stripes.false)) c.if-t-stripes.true))
    (λ c. let a = c.before.before.args in sym (turned_round a.from a.stripes a.t (omega (arith, c.before.if-from-stripes.false)) (omega (arith, c.if-t-stripes.false)))))
