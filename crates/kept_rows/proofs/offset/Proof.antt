-- `kept_rows::offset` meets its contract.
-- Assumes nothing.
use mathlib.Core.Path.{sym, ap}
use mathlib.Core.Bool.{Bool}
use Prim.Native.Nat.{◌+◌, ◌-◌}
use borrow.Author.Rules.{rules}
use borrow.Author.Tests.{le-leb, lt-leb}
use Rattle.lists.specs.Tests.{pick}
use Rattle.kept_rows.proofs.offset.Statement.{statement}
use Rattle.kept_rows.proofs.offset.Tie as tie

returns : tie.Need-returns-then-a-b
returns c =
    let a = c.before.args in
    sym (ap (λ (t : Bool). pick t (a.b - a.a) (a.b + a.n - a.a)) (le-leb a.a a.b c.if-a-b.true))

returns-2 : tie.Need-returns-else-a-b
returns-2 c =
    let a = c.before.args in
    sym (ap (λ (t : Bool). pick t (a.b - a.a) (a.b + a.n - a.a)) (lt-leb a.a a.b c.if-a-b.false))

pub offset_spec : {M : Type 1} → statement M
offset_spec = tie.close (tie.spec
    (λ c. search rules)
    (λ c. search rules)
    returns
    returns-2)
