-- `size_printer::print` meets its contract. The loop's invariant: the place is that behind 1,024 steps for each block, and so many bytes are counted as
-- the blocks have.
-- Assumes nothing.
use Rattle.std.proofs.Common.{◌≡◌, ◌*◌, ◌≤◌, ℕ, List, length}
use Rattle.lists.specs.Lists.{join}
use Rattle.size_steps.specs.Steps.{met, after}
use Rattle.size_steps.specs.Laws.{start}
use Rattle.size_list.specs.Combinations.{rows}
use Rattle.size_printer.proofs.print.Given as goal

-- the bytes of the first blocks
abbrev pub blocks : ℕ → ℕ → List ℕ
blocks most t = join t (λ s. rows (met most 1024 (after most (s * 1024) start)))

abbrev pub invariant-loop : goal.invariant-loop
invariant-loop l = record {
  place : l.place ≡ after l.most (l.counter * 1024) start;
  long : length l.out ≡ 40960;
  counted : l.total ≡ length (blocks l.most l.counter);
  few : l.total ≤ l.counter * 40960;
}
