-- `generator::fill` meets its contract.
-- Assumes nothing.
use Rattle.std.proofs.Common.{◌≡◌, ◌<◌, ◌≤◌, length, sym, ap, ◌∙◌, arith, length-set}
use Rattle.lists.proofs.Pieces.{fill-loop}
use Rattle.generator.specs.Generator.{step, top_byte, after}
use Rattle.generator.proofs.Laws.{byte_at, after_one, filled}
use Rattle.generator.proofs.fill.Goals as goal

pub loop-i-preserved : goal.loop-i-preserved
loop-i-preserved c =
    let l = c.loop-i in
    let a = c.args in
    let inside : l.i < length a.out.now = omega (arith, c.loop-i-test.true) in
    let new : c.step-next.result ≡ step (after l.i a.seed) = c.step-next.ensures ∙ ap step l.invariant.state in
    record {
      bytes = fill-loop (byte_at a.seed) a.out.now l.out l.i c.top_byte.result inside (c.top_byte.ensures ∙ ap top_byte new) l.invariant.bytes;
      state = new ∙ sym (after_one l.i a.seed);
      long = length-set l.out l.i c.top_byte.result ∙ l.invariant.long;
    }

pub returns : goal.returns
returns c =
    let l = c.loop-i in
    let a = c.args in
    let done : length a.out.now ≤ l.i = omega (arith, c.loop-i-test.false) in
    let i : l.i ≡ length a.out.now = omega (arith, done, l.auto.i-end) in
    (filled a.seed a.out.now l.out l.i done l.invariant.bytes (omega (arith, l.auto.i-end)), l.invariant.state ∙ ap (λ m. after m a.seed) i)
