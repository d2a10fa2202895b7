-- `repair_parts::fill_bytes` meets its contract. The loop's invariant: the bytes of the words so far, before what was there.
-- Assumes nothing.
use Rattle.std.proofs.Common.{◌≡◌, ◌*◌, ◌++◌, drop, get_or}
use Rattle.lists.specs.Lists.{join}
use Rattle.record_words.specs.Words.{bytes}
use Rattle.repair_parts.proofs.fill_bytes.Given as goal

abbrev pub invariant-loop-q : goal.invariant-loop-q
invariant-loop-q l = l.out ≡ join l.q (λ t. bytes 8 (get_or l.words t 0)) ++ drop (l.q * 8) l.fn.out
