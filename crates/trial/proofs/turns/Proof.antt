-- `trial::turns` meets its contract. The loop's invariant: the lines so far, then the text of the calls that are left, are the whole text; and a call's line
-- has at most 48 bytes.
-- Assumes nothing.
use mathlib.Core.Path.{◌≡◌, refl, ◌∙◌}
use mathlib.Core.List.{List}
use Prim.Native.Nat.{ℕ, ◌+◌, ◌*◌, ◌≤◌, ◌<◌}
use native.Mathlib.Omega.{arith}
use Rattle.lists.proofs.Tests.{true-false}
use lib.ListN.{length}
use Rattle.record.specs.declared.Running.{Running}
use Rattle.store.specs.declared.Store.{Store}
use Rattle.trial_input.specs.declared.Load.{Load}
use Rattle.trial_input.specs.Steps.{load_in}
use Rattle.trial_calls.specs.Acts.{state_in}
use Rattle.trial_turn.specs.Walk.{text_from}
use Rattle.trial.proofs.Walk.{Sofar, begin, onward, finished, few-calls}
use Rattle.trial.proofs.turns.Statement.{statement}
use Rattle.trial.proofs.turns.Tie as tie

-- the text of a load from these records and this area on
abbrev text : Load → Store → Running → List ℕ → List ℕ
text load store beside area = text_from (load_in load) load.calls (state_in store beside area) load.seed

abbrev invariant-loop : tie.invariant-loop-left
invariant-loop load area₀ store₀ beside₀ state₀ count₀ good₀ left₀ area store beside state count good left =
    Sofar (load_in load) (text load store₀ beside₀ area₀) count left (state_in store beside area) state
    × (count + 48 * left ≤ 206158430160)
    × (length area ≡ length area₀)

abbrev decreases-loop : tie.decreases-loop-left
decreases-loop load area₀ store₀ beside₀ state₀ count₀ good₀ left₀ area store beside state count good left = left

loop-holds : tie.Need-loop-left-init invariant-loop decreases-loop
loop-holds c =
    let a = c.args in
    let l = load_in a.load in
    let few = few-calls l c.requires in
    (begin l a.load.calls (state_in a.kept a.running a.area.now) a.load.seed, omega (arith, few), refl)

add-count : tie.Need-overflow_add-count invariant-loop decreases-loop
add-count c =
    let n = c.run_turn-made.ensures.1.1.1 in
    omega (arith, n, c.loop-left.invariant.1)

loop-again : tie.Need-loop-left-preserved invariant-loop decreases-loop
loop-again c =
    let i = c.loop-left in
    let a = c.args in
    let r = c.run_turn-made in
    let n = r.ensures.1.1.1 in
    let some : 0 < i.left = omega (arith, c.loop-left-test.true) in (
      onward (load_in a.load) (text a.load a.kept a.running a.area.now) i.count i.left (state_in i.store i.beside i.area) i.state some i.invariant.0
          r.result.count (state_in r.result.store r.result.running r.new.area) r.result.state r.ensures.1.1.0 r.ensures.0 r.ensures.1.0,
      omega (arith, n, i.invariant.1, some),
      r.auto.area ∙ i.invariant.2,
    )

returns : tie.Need-returns-else-good invariant-loop decreases-loop
returns c = let i = c.loop-left in finished _ _ i.count i.left _ _ i.good (λ e. absurd (true-false e c.if-good.false)) i.invariant.0

returns-2 : tie.Need-returns-after-loop-left invariant-loop decreases-loop
returns-2 c = let i = c.loop-left in finished _ _ i.count i.left _ _ i.good (λ e. omega (arith, c.loop-left-test.false)) i.invariant.0

pub turns_spec : {M : Type 1} → statement M
turns_spec =
    tie.close
    (tie.spec
    invariant-loop
    decreases-loop
    loop-holds
    (λ c κs. c.requires)
    add-count
    (λ c. omega (arith, c.loop-left-test.true))
    (λ c. omega (arith, c.loop-left-test.true))
    loop-again
    (λ c. c.loop-left.invariant.2)
    returns
    (λ c. c.loop-left.invariant.2)
    returns-2)
