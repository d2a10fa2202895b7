-- `text_in::pairs_at` meets its contract: a pair is two digits, and byte 0A ends the line.
-- Assumes nothing.
use Rattle.std.proofs.Common.{◌≡◌, true, ℕ, ◌+◌, ◌*◌, ◌-◌, List, sym, ap, ◌∙◌, arith}
use Rattle.text_in.specs.Steps.{lost, pairs_at}
use Rattle.text_in.proofs.At.{high-none, low-none, pair-more, end-past, end-other, end-there}
use Rattle.text_in.proofs.pairs_at.Invariants.{told, reading}
use Rattle.text_in.proofs.pairs_at.Goals as goal

pub returns-then-not-digit_at : goal.returns-then-not-digit_at
unfolding pairs_at
returns-then-not-digit_at c =
    let a = c.args in
    c.lost.ensures
    ∙ sym (high-none (lost a.text.now) a.text.now c.loop.i (a.count - c.loop.counter) (told a.at a.count) (omega arith) (sym c.digit_at.ensures ∙ c.if-not-digit_at.true))
    ∙ c.loop.invariant.1

pub returns-then-not-digit_at-2 : goal.returns-then-not-digit_at-2
unfolding pairs_at
returns-then-not-digit_at-2 c =
    let a = c.args in
    c.lost-then-not-digit_at-2.ensures
    ∙ sym (low-none (lost a.text.now) a.text.now c.loop.i (a.count - c.loop.counter) (told a.at a.count)
    (omega arith) (sym c.digit_at.ensures ∙ c.if-not-digit_at.false) (sym c.digit_at-in-loop.ensures ∙ c.if-not-digit_at-2.true))
    ∙ c.loop.invariant.1

pub loop-preserved : goal.loop-preserved
loop-preserved c =
    let a = c.args in
    let left : a.count - (c.loop.counter + 1) ≡ a.count - c.loop.counter - 1 = omega arith in (
      omega arith,
      ap (λ (n : ℕ). reading a.text.now a.at a.count (c.loop.i + 2) n) left
          ∙ pair-more (lost a.text.now) a.text.now c.loop.i (a.count - c.loop.counter) (told a.at a.count)
          (omega arith) (sym c.digit_at.ensures ∙ c.if-not-digit_at.false) (sym c.digit_at-in-loop.ensures ∙ c.if-not-digit_at-2.false)
          ∙ c.loop.invariant.1,
    )

-- behind the last pair
none_left : (text : List ℕ) (at count i left : ℕ) → 0 ≡ left → reading text at count i left ≡ reading text at count at count → reading text at count i 0 ≡ pairs_at text at count
unfolding pairs_at
none_left text at count i left z e = ap (λ (m : ℕ). reading text at count i m) z ∙ e

pub returns-then-text-i : goal.returns-then-text-i
returns-then-text-i c =
    let a = c.args in
    c.lost-then-text-i.ensures ∙ sym (end-past (lost a.text.now) a.text.now c.loop.i (told a.at a.count) c.if-text-i.true) ∙ none_left a.text.now a.at a.count c.loop.i _ (omega arith) c.loop.invariant.1

pub returns-then-text-i-ne10 : goal.returns-then-text-i-ne10
returns-then-text-i-ne10 c =
    let a = c.args in
    c.lost-then-text-i-ne10.ensures
    ∙ sym (end-other (lost a.text.now) a.text.now c.loop.i (told a.at a.count) c.if-text-i.false c.if-text-i-ne10.true) ∙ none_left a.text.now a.at a.count c.loop.i _ (omega arith) c.loop.invariant.1

pub returns : goal.returns
returns c =
    let a = c.args in
    let place : c.loop.i + 1 ≡ a.at + 2 * a.count + 1 = omega arith in
    ap (λ (n : ℕ). record { ok = true; value = a.at; next = n }) place
    ∙ sym (end-there (lost a.text.now) a.text.now c.loop.i (told a.at a.count) c.if-text-i.false c.if-text-i-ne10.false) ∙ none_left a.text.now a.at a.count c.loop.i _ (omega arith) c.loop.invariant.1
