-- `repair_parts::word_of` meets its contract. The loop's invariant: the number of the bytes from i on.
-- Assumes nothing.
use Rattle.std.proofs.Common.{◌≡◌, ◌-◌, ◌≤◌, ◌<◌, drop}
use Rattle.record_words.specs.Words.{from_bytes}
use Rattle.repair_parts.proofs.Parts.{power}
use Rattle.repair_parts.proofs.word_of.Given as goal

abbrev pub invariant-loop-i : goal.invariant-loop-i
invariant-loop-i l = (l.word ≡ from_bytes (drop l.i l.eight)) × (l.i ≤ 8) × (l.word < power (8 - l.i))
