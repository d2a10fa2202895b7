-- `decode_pairs::board_meets` meets its contract: the tests that are left are the tests of the whole.
-- Assumes nothing.
use Rattle.std.proofs.Common.{◌≡◌, ℕ, Bool, length, drop}
use lib.Dec.{eqb}
use Rattle.lists.specs.Tests.{alls}
use Rattle.lists.specs.Lists.{tabulate}
use Rattle.decode_laws.specs.Steps.{value_at}
use Rattle.decode_pairs.proofs.board_meets.Given as goal

abbrev pub invariant-loop-j : goal.invariant-loop-j
invariant-loop-j l =
    let q : ℕ → Bool = λ j. eqb (value_at l.n l.w l.m l.boards l.boards l.ff l.fs l.i j) (value_at l.n l.d l.p l.boards l.boards l.gf l.gs j l.i) in
    alls (drop l.j (tabulate (length l.boards) q)) ≡ alls (tabulate (length l.boards) q)
