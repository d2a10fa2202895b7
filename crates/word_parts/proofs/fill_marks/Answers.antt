-- `word_parts::fill_marks` meets its contract: a bit by the parity, and the half goes on.
-- Assumes nothing.
use Rattle.std.proofs.Common.{◌≡◌, ℕ, ◌++◌, Bool, List, ◌%◌, length, drop, ap, ◌∙◌, arith}
use mathlib.Core.List.{append-nil}
use lib.Dec.{eqb}
use lib.ListN.{drop_of_length-le}
use Rattle.record_words.specs.Words.{bits}
use Rattle.record_words.proofs.Bits.{fill-next, half-next}
use Rattle.word_parts.proofs.fill_marks.Goals as goal

pub loop-mark-preserved : goal.loop-mark-preserved
loop-mark-preserved c =
    let a = c.args in
    let l = c.loop-mark in (
      fill-next l.mark-index a.word a.marks.now l.marks _ (omega arith) (ap (λ (r : ℕ). eqb (r % 2) 1) l.invariant.1) l.invariant.0,
      half-next l.mark-index a.word l.rest l.invariant.1,
    )

pub returns : goal.returns
returns c =
    let a = c.args in
    let l = c.loop-mark in
    let e : l.mark-index ≡ length a.marks.now = omega arith in
    l.invariant.0
    ∙ ap (λ (m : ℕ). bits m a.word ++ drop m a.marks.now) e
    ∙ ap (λ (r : List Bool). bits (length a.marks.now) a.word ++ r) (drop_of_length-le a.marks.now {i = length a.marks.now} (omega arith))
    ∙ append-nil (bits (length a.marks.now) a.word)
