-- `trial_turn::run_one` meets its contract: the call picked is the call drawn, and its line the definition's.
-- Assumes nothing.
use mathlib.Core.Path.{subst, ◌∙◌}
use mathlib.Core.List.{List}
use Prim.Native.Nat.{ℕ}
use Rattle.text_lines.specs.Steps.{Wrote}
use Rattle.trial_input.specs.Steps.{load_in}
use Rattle.trial_turn.proofs.Turn.{call-picked, state-picked, line-picked, as_call}
use borrow.Author.Rules.{rules}
use Rattle.trial_turn.proofs.run_one.Statement.{statement}
use Rattle.trial_turn.proofs.run_one.Tie as tie

returns : tie.Need-returns
returns c =
    let a = c.args in
    let l = load_in a.load in
    let state = c.pick_kind-kind.result.state in
    let op = c.pick_kind-kind.result.op in
    let kind = c.pick_kind-kind.ensures in
    let acts = as_call (call-picked l a.state state op kind.1 kind.0) c.take_turn-turned.ensures.0 in (
      acts.after,
      (
        c.take_turn-turned.ensures.1 ∙ state-picked l a.state state op kind.1 kind.0,
        subst (λ (text : List ℕ). Wrote a.line.now 0 text c.put_call-count.new.line c.put_call-count.result)
            (line-picked l a.state state op kind.1 kind.0 acts.answer) c.put_call-count.ensures,
      ),
    )

pub run_one_spec : {M : Type 1} → statement M
run_one_spec =
    tie.close
    (tie.spec
    (λ c κs. search rules)
    (λ c κs. search rules)
    (λ c κs. search rules)
    (λ c. search rules)
    (λ c. search rules)
    returns)
