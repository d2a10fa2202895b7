-- `word_parts::fill_marks` meets its contract. The loop's invariant: the bits so far, before what was there, and what is left of the word.
-- Assumes nothing.
use Rattle.std.proofs.Common.{◌≡◌, ◌++◌, drop}
use Rattle.record_words.specs.Words.{bits}
use Rattle.record_words.proofs.Bits.{rest as left}
use Rattle.word_parts.proofs.fill_marks.Given as goal

abbrev pub invariant-loop-mark : goal.invariant-loop-mark
invariant-loop-mark l = (l.marks ≡ bits l.mark-index l.word ++ drop l.mark-index l.fn.marks) × (l.rest ≡ left l.mark-index l.word)
