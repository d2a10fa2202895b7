-- `text_head::unsaid` meets its contract.
-- Assumes nothing.
use mathlib.Core.Path.{ap}
use mathlib.Core.Bool.{true}
use mathlib.Core.List.{List}
use Prim.Native.Nat.{ℕ}
use Rattle.text_head.specs.declared.Pointed.{Pointed}
use borrow.Author.Rules.{rules}
use Rattle.text_head.proofs.unsaid.Statement.{statement}
use Rattle.text_head.proofs.unsaid.Tie as tie

returns : tie.Need-returns
returns c = ap {B = Pointed} (λ (l : List ℕ). record { ok = true; points = l; next = c.before.args.at }) c.standard_points.ensures

pub unsaid_spec : {M : Type 1} → statement M
unsaid_spec = tie.close (tie.spec (λ c κs. search rules) returns)
