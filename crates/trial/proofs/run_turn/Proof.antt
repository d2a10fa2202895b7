-- `trial::run_turn` meets its contract, by that of a turn; its line lies within the array.
-- Assumes nothing.
use mathlib.Core.Path.{sym, ◌∙◌}
use Prim.Native.Nat.{◌≤◌}
use native.Mathlib.Nat.{zero-add}
use native.Mathlib.Omega.{arith}
use lib.ListN.{length}
use lib.Seq.{length-take-le}
use Rattle.trial.proofs.Walk.{wrote-few}
use borrow.Author.Rules.{rules}
use Rattle.trial.proofs.run_turn.Statement.{statement}
use Rattle.trial.proofs.run_turn.Tie as tie

-- places in the code
abbrev run_one-ran-of-beside-1 : tie.After-beside-1 → tie.After-run_one-ran
run_one-ran-of-beside-1 c = c.before.before.before.before.before.before.before

few : (c : tie.After-run_one-ran) → c.run_one-ran.result.count ≤ 48
few c = wrote-few _ _ _ _ c.run_one-ran.ensures.1.1 c.run_one-ran.auto.line

inside : (c : tie.After-run_one-ran) → c.run_one-ran.result.count ≤ length c.run_one-ran.new.line
inside c = omega (arith, few c, c.run_one-ran.auto.line)

returns : tie.Need-returns
returns c =
    (c.run_one-ran.ensures.0, (c.run_one-ran.ensures.1.0, (c.run_one-ran.ensures.1.1.ends ∙ zero-add _, few (run_one-ran-of-beside-1 c))))

pub run_turn_spec : {M : Type 1} → statement M
run_turn_spec =
    tie.close
    (tie.spec
    (λ c. search rules)
    (λ c κs. search rules)
    (λ c. inside c.before.before.before)
    (λ c. sym (length-take-le _ _ (inside c.before.before.before.before)))
    (λ c κs. search rules)
    (λ c. search rules)
    returns)
