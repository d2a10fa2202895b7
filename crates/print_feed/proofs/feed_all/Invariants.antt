-- `print_feed::feed_all` meets its contract. The loop's invariant: what is left of the input does with parser and slice what the whole of it
-- did with the first.
-- Assumes nothing.
use Rattle.std.proofs.Common.{◌≡◌, drop, length}
use Rattle.print_feed.specs.Steps.{feed_all}
use Rattle.print_feed.proofs.feed_all.Given as goal

abbrev pub invariant-loop-b : goal.invariant-loop-b
invariant-loop-b l = record {
  same : length l.file ≡ length l.initial.file;
  left : feed_all (record { parser = l.q; file = l.file }) (drop l.b-index l.input) ≡ feed_all (record { parser = l.initial.q; file = l.initial.file }) l.input;
}
