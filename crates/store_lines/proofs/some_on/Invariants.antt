-- `store_lines::some_on` meets its contract. The loop's invariant: the test of what is left is the test of all from `from` on.
-- Assumes nothing.
use Rattle.std.proofs.Common.{◌≡◌, drop}
use Rattle.store_spec.specs.Record.{all_off}
use Rattle.store_lines.proofs.some_on.Given as goal

abbrev pub invariant-loop-i : goal.invariant-loop-i
invariant-loop-i l = all_off (drop l.i l.marks) ≡ all_off (drop l.from l.marks)
