-- `trial_limits::within` meets its contract, test by test.
-- Assumes nothing.
use mathlib.Core.Path.{sym, ◌∙◌}
use native.Mathlib.Omega.{arith}
use Rattle.trial_limits.specs.Steps.{numbers_in}
use Rattle.trial_limits.proofs.SetUp.{by-set-up, not_taken}
use borrow.Author.Rules.{rules}
use Rattle.trial_limits.proofs.within.Statement.{statement}
use Rattle.trial_limits.proofs.within.Tie as tie

returns : tie.Need-returns-then-numbers-gt4294967295
returns c = sym (not_taken (numbers_in c.before.before.args.numbers) (λ m s n L. omega (arith, c.if-numbers-gt4294967295.true, s)))

-- the places
abbrev st-at-else1 : tie.Else-numbers-gt4294967295 → tie.Start
st-at-else1 c = c.before.before

returns-2 : tie.Need-returns-then-numbers-gt4294967295-2
returns-2 c = sym (not_taken (numbers_in (st-at-else1 c.before.before).args.numbers) (λ m s n L. omega (arith, c.if-numbers-gt4294967295-2.true, n)))

returns-3 : tie.Need-returns-then-numbers-gt16384
returns-3 c = sym (not_taken (numbers_in (st-at-else1 c.before.before.before.before).args.numbers) (λ m s n L. omega (arith, c.if-numbers-gt16384.true, L)))

returns-4 : tie.Need-returns
returns-4 c =
    let e3 = c.before.before in
    let e2 = e3.before.before in
    let e1 = e2.before.before in
    let l = numbers_in (st-at-else1 e1).args.numbers in
    c.set_up.ensures ∙ by-set-up l (omega (arith, e1.if-numbers-gt4294967295.false)) (omega (arith, e2.if-numbers-gt4294967295-2.false)) (omega (arith, e3.if-numbers-gt16384.false))

pub within_spec : {M : Type 1} → statement M
within_spec = tie.close (tie.spec returns returns-2 returns-3 (λ c κs. search rules) returns-4)
