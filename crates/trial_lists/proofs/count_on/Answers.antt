-- `trial_lists::count_on` meets its contract: a board more, and at the end all of them.
-- Assumes nothing.
use Rattle.std.proofs.Common.{◌≡◌, refl, ap, ◌∙◌, ◌<◌, ◌≤◌, ℕ, length, length-set, arith}
use Rattle.lists.specs.Lists.{tabulate}
use Rattle.lists.proofs.Pieces.{fill-loop, fill-all}
use Rattle.trial_lists.proofs.count_on.Invariants.{board}
use Rattle.trial_lists.proofs.count_on.Goals as goal

pub loop-i-init : goal.loop-i-init
loop-i-init c = record { counted = refl; same = refl }

pub loop-i-preserved : goal.loop-i-preserved
loop-i-preserved c =
    let l = c.loop-i in
    let a = c.args in
    let inside : l.i < length a.out.now = omega (arith, l.invariant.same, c.loop-i-test.true) in
    record {
      counted = fill-loop (board a.n a.first) a.out.now l.out l.i (board a.n a.first l.i) inside refl l.invariant.counted;
      same = length-set l.out l.i (board a.n a.first l.i) ∙ l.invariant.same;
    }

pub returns : goal.returns
returns c =
    let l = c.loop-i in
    let a = c.args in
    let done : length a.out.now ≤ l.i = omega (arith, c.loop-i-test.false) in
    let i : l.i ≡ length a.out.now = omega (arith, done) in
    l.invariant.counted ∙ fill-all (board a.n a.first) a.out.now l.i done ∙ ap (λ (m : ℕ). tabulate m (board a.n a.first)) i
