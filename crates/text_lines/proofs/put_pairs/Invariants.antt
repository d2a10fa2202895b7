-- `text_lines::put_pairs` meets its contract. The loop's invariant: the pairs of the bytes passed are written.
-- Assumes nothing.
use Rattle.std.proofs.Common.{◌≡◌, ◌+◌, ◌*◌, take}
use Rattle.lists.specs.Lists.{joined}
use Rattle.board_spec.specs.Text.{hex_pair}
use Rattle.text_lines.specs.Steps.{Wrote}
use Rattle.text_lines.proofs.put_pairs.Given as goal

abbrev pub invariant-loop-b : goal.invariant-loop-b
invariant-loop-b l = Wrote l.fn.out l.at (joined hex_pair (take l.b-index l.share)) l.out l.p × (l.p ≡ l.at + l.b-index * 2)
