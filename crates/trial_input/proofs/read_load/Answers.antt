-- `trial_input::read_load` meets its contract: what the lines tell is taken apart, and refused early.
-- Assumes nothing.
use Rattle.std.proofs.Common.{◌≡◌, ℕ, List, length, drop, sym, ap, ◌∙◌, arith, length-drop}
use Rattle.trial_spec.specs.Trial.{loaded}
use Rattle.trial_input.specs.declared.Eight.{Eight}
use Rattle.trial_limits.specs.Steps.{numbers_in}
use Rattle.trial_limits.proofs.SetUp.{small, ends-yes, ends-refused, ends-behind}
use Rattle.std.specs.Prelude as rust
use Rattle.trial_input.specs.Steps.{loaded_in, numbers_at}
use Rattle.trial_input.proofs.Lines.{through, fin, loaded-by}
use Rattle.trial_input.proofs.read_load.Goals as goal

-- what is loaded, by what was told
is-given : (text : List ℕ) (o p : rust.Option Eight) → o ≡ numbers_at text → o ≡ p → loaded text ≡ through p (fin text)
is-given text o p e f = loaded-by text ∙ ap (λ (o : rust.Option Eight). through o (fin text)) (sym e ∙ f)

pub returns-in_err-eight : goal.returns-in_err-eight
returns-in_err-eight c = ap loaded_in c.from_residual.ensures ∙ sym (is-given c.args.input.now c.numbers_at.result rust.None c.numbers_at.ensures c.in_err-eight.was)

pub returns-then-eight-input : goal.returns-then-eight-input
returns-then-eight-input c =
    let text = c.args.input.now in
    let e = c.in_ok-eight.eight in
    sym (is-given text c.numbers_at.result (rust.Some e) c.numbers_at.ensures c.in_ok-eight.was
    ∙ ends-behind (numbers_in e.numbers) (drop e.next text) (omega (arith, length-drop e.next text, c.if-eight-input.true)))

pub returns-then-not-within : goal.returns-then-not-within
returns-then-not-within c =
    let text = c.args.input.now in
    let e = c.in_ok-eight.eight in
    sym (is-given text c.numbers_at.result (rust.Some e) c.numbers_at.ensures c.in_ok-eight.was
    ∙ ends-refused (numbers_in e.numbers) (drop e.next text) (sym c.within.ensures ∙ c.if-not-within.true))

pub overflow_cast-result : goal.overflow_cast-result
overflow_cast-result c =
    let s = small (numbers_in c.in_ok-eight.eight.numbers) (sym c.within.ensures ∙ c.if-not-within.false) in record { fits = s.seed }

pub overflow_cast-result-2 : goal.overflow_cast-result-2
overflow_cast-result-2 c =
    let s = small (numbers_in c.in_ok-eight.eight.numbers) (sym c.within.ensures ∙ c.if-not-within.false) in record { fits = s.calls }

pub returns : goal.returns
returns c =
    let text = c.args.input.now in
    let e = c.in_ok-eight.eight in
    let none_left : length (drop e.next text) ≡ 0 = omega (arith, length-drop e.next text, c.if-eight-input.false) in
    sym (is-given text c.numbers_at.result (rust.Some e) c.numbers_at.ensures c.in_ok-eight.was
    ∙ ends-yes (numbers_in e.numbers) (drop e.next text) (sym c.within.ensures ∙ c.if-not-within.false) none_left)
