-- `size_rows::fill` meets its contract. The loop's invariant: the lines of so many steps are written, and the place is that behind them.
-- Assumes nothing.
use Rattle.std.proofs.Common.{◌≡◌, ◌*◌, ◌≤◌}
use Rattle.text_lines.specs.Steps.{Wrote}
use Rattle.size_list.specs.Combinations.{rows}
use Rattle.size_steps.specs.Steps.{met, after}
use Rattle.size_rows.proofs.fill.Given as goal

abbrev pub invariant-loop : goal.invariant-loop
invariant-loop l = record {
  wrote : Wrote l.initial.out 0 (rows (met l.most l.counter l.initial.run.place)) l.out l.run.count;
  place : l.run.place ≡ after l.most l.counter l.initial.run.place;
  few : l.run.count ≤ l.counter * 40;
}
