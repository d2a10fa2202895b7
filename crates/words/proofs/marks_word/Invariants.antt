-- `words::marks_word` meets its contract. The loop's invariant: the number of the marks from i on.
-- Assumes nothing.
use Rattle.std.proofs.Common.{◌≡◌, ◌≤◌, length, drop}
use Rattle.record_words.specs.Words.{from_bits}
use Rattle.words.proofs.marks_word.Given as goal

abbrev pub invariant-loop-i : goal.invariant-loop-i
invariant-loop-i l = (l.word ≡ from_bits (drop l.i l.marks)) × (l.i ≤ length l.marks)
