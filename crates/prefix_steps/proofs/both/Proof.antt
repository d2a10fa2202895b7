-- `prefix_steps::both` meets its contract, by the tests.
-- Assumes nothing.
use mathlib.Core.Path.{◌≡◌}
use mathlib.Core.Bool.{Bool, true, false}
use native.Mathlib.Omega.{arith}
use borrow.Author.Tests.{le-leb, lt-leb}
use Rattle.lists.specs.Tests.{pick}
use Rattle.prefix_steps.proofs.both.Statement.{statement}
use Rattle.prefix_steps.proofs.both.Tie as tie

one : (t : Bool) → t ≡ pick t true false
one true = mathlib.Core.Path.refl
one false = mathlib.Core.Path.refl

returns : tie.Need-returns-then-a-b
returns c = rw (le-leb c.before.args.a c.before.args.b c.if-a-b.true) (one _)

returns-2 : tie.Need-returns
returns-2 c = rw (lt-leb c.before.args.a c.before.args.b (omega arith))

pub both_spec : {M : Type 1} → statement M
both_spec = tie.close (tie.spec returns returns-2)
