-- `number_lines::grown` meets its contract: above a tenth of the bound no digit is looked at, and up to there no product wraps.
-- Assumes nothing.
use mathlib.Core.Path.{sym}
use Prim.Native.Nat.{◌*◌, ◌≤◌}
use native.Mathlib.Nat.{div-add-mod'}
use native.Mathlib.Omega.{arith}
use Rattle.number_lines.proofs.Capped.{capped-low, capped-high}
use borrow.Author.Rules.{rules}
use Rattle.number_lines.proofs.grown.Statement.{statement}
use Rattle.number_lines.proofs.grown.Tie as tie

-- ten times the number is not above the bound
tens : (c : tie.Else-most-v) → let a = c.before.args in 10 * a.v ≤ a.most
tens c = omega (arith, c.if-most-v.false, div-add-mod' c.before.args.most 10)

returns : tie.Need-returns-then-most-v
returns c = sym (capped-high _ _ (omega (arith, c.if-most-v.true, div-add-mod' c.before.args.most 10)))

returns-2 : tie.Need-returns-then-x-most
returns-2 c = sym (capped-low _ _ (omega (arith, tens c.before, c.if-x-most.true)))

returns-3 : tie.Need-returns-else-x-most
returns-3 c = sym (capped-high _ _ (omega (arith, tens c.before, c.if-x-most.false)))

pub grown_spec : {M : Type 1} → statement M
grown_spec = tie.close (tie.spec returns (λ c. search rules) (λ c. search rules) (λ c. search rules) returns-2 returns-3)
