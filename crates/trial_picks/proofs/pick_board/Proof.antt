-- `trial_picks::pick_board` meets its contract.
-- Assumes nothing.
use mathlib.Core.Path.{ap, ◌∙◌}
use Prim.Native.Nat.{ℕ, ◌%◌}
use Rattle.generator.specs.Generator.{top_byte}
use borrow.Author.Rules.{rules}
use Rattle.trial_picks.proofs.pick_board.Statement.{statement}
use Rattle.trial_picks.proofs.pick_board.Tie as tie

returns : tie.Need-returns
returns c =
    let k = c.before in
    (ap (λ (x : ℕ). x % k.before.args.n) (c.top_byte.ensures ∙ ap top_byte k.step-next.ensures), k.step-next.ensures)

pub pick_board_spec : {M : Type 1} → statement M
pick_board_spec =
    tie.close
    (tie.spec
    (λ c κs. search rules)
    (λ c κs. search rules)
    (λ c. search rules)
    (λ c. search rules)
    returns)
