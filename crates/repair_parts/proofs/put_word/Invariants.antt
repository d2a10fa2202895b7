-- `repair_parts::put_word` meets its contract. The loop's invariant: the bytes so far, before what was there, and what is left of the word.
-- Assumes nothing.
use Rattle.std.proofs.Common.{◌≡◌, ◌++◌, drop}
use Rattle.record_words.specs.Words.{bytes}
use Rattle.repair_parts.proofs.Parts.{rest as left}
use Rattle.repair_parts.proofs.put_word.Given as goal

abbrev pub invariant-loop-b : goal.invariant-loop-b
invariant-loop-b l = (l.out ≡ bytes l.b-index l.word ++ drop l.b-index l.fn.out) × (l.rest ≡ left l.b-index l.word)
