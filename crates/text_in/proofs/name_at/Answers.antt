-- `text_in::name_at` meets its contract: byte by byte, as the definition reads.
-- Assumes nothing.
use Rattle.std.proofs.Common.{◌≡◌, true, ℕ, ◌+◌, length, sym, ap, ◌∙◌, arith}
use Rattle.text_in.specs.Steps.{lost, name_at}
use Rattle.text_in.proofs.At.{name-more, name-other, name-past, name-ends}
use Rattle.text_in.proofs.name_at.Invariants.{told}
use Rattle.text_in.proofs.name_at.Goals as goal

pub returns-then-text-i : goal.returns-then-text-i
unfolding name_at
returns-then-text-i c =
    let a = c.args in
    c.lost.ensures
    ∙ sym (sym c.loop-b.invariant.1 ∙ name-past (lost a.text.now) a.text.now a.name.now c.loop-b.i c.loop-b.b-index (told a.name.now a.at) c.if-text-i.true c.loop-b-test.true)

pub returns-then-text-i-2 : goal.returns-then-text-i-2
unfolding name_at
returns-then-text-i-2 c =
    let a = c.args in
    c.lost-then-text-i-2.ensures
    ∙ sym (sym c.loop-b.invariant.1 ∙ name-other (lost a.text.now) a.text.now a.name.now c.loop-b.i c.loop-b.b-index
    (told a.name.now a.at) c.if-text-i.false c.loop-b-test.true c.if-text-i-2.true)

pub loop-b-preserved : goal.loop-b-preserved
loop-b-preserved c =
    let a = c.args in (
      omega arith,
      name-more (lost a.text.now) a.text.now a.name.now c.loop-b.i c.loop-b.b-index (told a.name.now a.at) c.if-text-i.false c.loop-b-test.true c.if-text-i-2.false
          ∙ c.loop-b.invariant.1,
    )

pub returns : goal.returns
unfolding name_at
returns c =
    let a = c.args in
    let j : c.loop-b.b-index ≡ length a.name.now = omega arith in
    ap (λ (n : ℕ). record { ok = true; value = 0; next = n }) (c.loop-b.invariant.0 ∙ ap (λ (m : ℕ). a.at + m) j)
    ∙ sym (sym c.loop-b.invariant.1 ∙ name-ends (lost a.text.now) a.text.now a.name.now c.loop-b.i c.loop-b.b-index (told a.name.now a.at) c.loop-b-test.false)
