-- `size_rows::limit` meets its contract. The loop's invariant: what the reader makes of the bytes that are left is the limit.
-- Assumes nothing.
use Rattle.std.proofs.Common.{◌≡◌, [], drop}
use Rattle.number_lines.specs.Steps.{reads}
use Rattle.size_list.specs.Combinations.{limit}
use Rattle.size_steps.proofs.Taken.{go}
use Rattle.size_rows.proofs.limit.Given as goal

abbrev pub invariant-loop-t : goal.invariant-loop-t
invariant-loop-t l = reads 0 [] 33 l.reader (drop l.t l.input) go ≡ limit l.input
