-- `repair_parts::put_packed` meets its contract. The loop's invariant: the words so far, before those that were there.
-- Assumes nothing.
use Rattle.std.proofs.Common.{◌≡◌, ◌++◌, drop}
use Rattle.lists.specs.Lists.{tabulate, piece}
use Rattle.record_words.specs.Words.{from_bytes}
use Rattle.repair_parts.proofs.put_packed.Given as goal

abbrev pub invariant-loop-q : goal.invariant-loop-q
invariant-loop-q l = l.words ≡ tabulate l.q (λ t. from_bytes (piece 8 t l.packed)) ++ drop l.q l.fn.words
