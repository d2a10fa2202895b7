-- `repair_parts::word_of` meets its contract: a byte more below.
-- Assumes nothing.
use Rattle.std.proofs.Common.{◌≡◌, ℕ, ◌-◌, ◌<◌, drop, sym, ap, ◌∙◌, arith}
use mathlib.Core.Path.{subst}
use lib.ListN.{length, drop_of_length-le}
use Rattle.record_words.specs.Words.{from_bytes}
use Rattle.repair_parts.proofs.Parts.{power, few, few-next, number-next}
use Rattle.repair_parts.proofs.word_of.Goals as goal

pub loop-i-init : goal.loop-i-init
loop-i-init c =
    let e : 8 - length c.args.eight.now ≡ 0 = omega arith in (
      sym (ap from_bytes (drop_of_length-le c.args.eight.now {i = length c.args.eight.now} (omega arith))),
      omega arith,
      subst (λ (m : ℕ). 0 < power m) (sym e) (omega arith),
    )

pub overflow_mul-word : goal.overflow_mul-word
overflow_mul-word c = let l = c.loop-i in omega (arith, few l.i l.word c.loop-i-test.true l.invariant.2)

pub overflow_add-word : goal.overflow_add-word
overflow_add-word c = let l = c.loop-i in omega (arith, few l.i l.word c.loop-i-test.true l.invariant.2, c.type_inv.eight (l.i - 1))

pub loop-i-preserved : goal.loop-i-preserved
loop-i-preserved c =
    let l = c.loop-i in
    let b : c.from.result < 256 = omega (arith, c.from.ensures, c.type_inv.eight (l.i - 1)) in (
      number-next c.args.eight.now l.i l.word c.from.result c.loop-i-test.true (omega (arith, c.requires)) c.from.ensures l.invariant.0,
      omega arith,
      few-next l.i l.word c.from.result c.loop-i-test.true l.invariant.1 l.invariant.2 b,
    )

pub returns : goal.returns
returns c =
    let e : c.loop-i.i ≡ 0 = omega arith in
    c.loop-i.invariant.0 ∙ ap (λ (m : ℕ). from_bytes (drop m c.args.eight.now)) e
