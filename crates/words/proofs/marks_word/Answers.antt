-- `words::marks_word` meets its contract: a mark more below.
-- Assumes nothing.
use Rattle.std.proofs.Common.{◌≡◌, ℕ, length, drop, sym, ap, ◌∙◌, arith}
use lib.ListN.{drop_of_length-le}
use Rattle.record_words.specs.Words.{from_bits}
use Rattle.record_words.proofs.Bits.{rest-few, word_on, word-off}
use Rattle.words.proofs.marks_word.Goals as goal

pub loop-i-init : goal.loop-i-init
loop-i-init c = (sym (ap from_bits (drop_of_length-le c.args.marks.now {i = length c.args.marks.now} (omega arith))), omega arith)

pub overflow_mul-word : goal.overflow_mul-word
overflow_mul-word c = omega (arith, rest-few c.args.marks.now c.loop-i.i c.requires)

pub overflow_add-word : goal.overflow_add-word
overflow_add-word c = omega (arith, rest-few c.args.marks.now c.loop-i.i c.requires)

pub loop-i-preserved-then-marks-i : goal.loop-i-preserved-then-marks-i
loop-i-preserved-then-marks-i c =
    (word_on c.args.marks.now c.loop-i.i c.loop-i.word c.loop-i-test.true c.loop-i.invariant.1 c.if-marks-i.true c.loop-i.invariant.0, omega arith)

pub loop-i-preserved : goal.loop-i-preserved
loop-i-preserved c =
    (word-off c.args.marks.now c.loop-i.i c.loop-i.word c.loop-i-test.true c.loop-i.invariant.1 c.if-marks-i.false c.loop-i.invariant.0, omega arith)

pub returns : goal.returns
returns c =
    let e : c.loop-i.i ≡ 0 = omega arith in
    c.loop-i.invariant.0 ∙ ap (λ (m : ℕ). from_bits (drop m c.args.marks.now)) e
