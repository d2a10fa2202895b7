-- `prefix_pairs::data_on` meets its contract: a pair is two digits, and the end of the line is behind them.
-- Assumes nothing.
use Rattle.std.proofs.Common.{◌≡◌, ℕ, ◌+◌, ◌-◌, List, [], drop, sym, ap, ◌∙◌, arith}
use Rattle.prefix_spec.specs.Prefix.{pairs_on}
use Rattle.prefix_steps.proofs.Steps.{goes-stop}
use Rattle.prefix_pairs.proofs.Pairs.{any, data-high, data-low, data-more}
use Rattle.prefix_pairs.proofs.data_on.Goals as goal

-- so many pairs are left
same-left : (text : List ℕ) (i m n : ℕ) (go : List ℕ → ℕ) → m ≡ n → i + pairs_on any m [] (drop i text) go ≡ i + pairs_on any n [] (drop i text) go
same-left text i m n go e = ap (λ (m : ℕ). i + pairs_on any m [] (drop i text) go) e

pub loop-init : goal.loop-init
loop-init c go = same-left c.args.text.now c.args.at _ _ go (omega arith)

pub returns-then-not-digit_at : goal.returns-then-not-digit_at
returns-then-not-digit_at c =
    let a = c.args in
    goes-stop a.text.now a.at _ c.stopped.result c.loop.i c.stopped.ensures
    (λ go. sym (c.loop.invariant (go 0))
    ∙ data-high a.text.now c.loop.i (a.count - c.loop.counter) (omega arith) (go 0) (sym c.digit_at.ensures ∙ c.if-not-digit_at.true))

pub returns-then-not-digit_at-2 : goal.returns-then-not-digit_at-2
returns-then-not-digit_at-2 c =
    let a = c.args in
    goes-stop a.text.now a.at _ c.stopped-then-not-digit_at-2.result (c.loop.i + 1) c.stopped-then-not-digit_at-2.ensures
    (λ go. sym (c.loop.invariant (go 0)) ∙ data-low a.text.now c.loop.i (a.count - c.loop.counter) (omega arith) (go 0) (sym c.digit_at.ensures ∙ c.if-not-digit_at.false)
    (sym c.digit_at-in-loop.ensures ∙ c.if-not-digit_at-2.true))

pub loop-preserved : goal.loop-preserved
loop-preserved c go =
    let a = c.args in
    same-left a.text.now (c.loop.i + 2) _ _ go (let e : a.count - (c.loop.counter + 1) ≡ a.count - c.loop.counter - 1 = omega arith in e)
    ∙ data-more a.text.now c.loop.i (a.count - c.loop.counter) (omega arith) go (sym c.digit_at.ensures ∙ c.if-not-digit_at.false)
    (sym c.digit_at-in-loop.ensures ∙ c.if-not-digit_at-2.false)
    ∙ c.loop.invariant go

pub returns : goal.returns
returns c go =
    let a = c.args in
    let z : a.count - c.loop.counter ≡ 0 = omega arith in
    sym (c.loop.invariant (go 0)) ∙ same-left a.text.now c.loop.i _ _ (go 0) z ∙ c.end_on.ensures go
