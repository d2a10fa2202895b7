-- What was read so far is fed; the measure is the number of turns that are left.
use Rattle.std.proofs.Common.{length, ◌≡◌}
use Rattle.printer.specs.Steps.{begin}
use Rattle.print_read.specs.Steps.{Reading}
use Rattle.print_read.proofs.read_all.Given as goal

abbrev pub invariant-loop-turns : goal.invariant-loop-turns
invariant-loop-turns g l = record {
  same : length l.file ≡ length l.initial.file;
  reading : Reading (record { parser = begin l.asked; file = l.initial.file }) l.more (record { parser = l.p; file = l.file });
}

abbrev pub decreases-loop-turns : goal.decreases-loop-turns
decreases-loop-turns g l = l.turns
