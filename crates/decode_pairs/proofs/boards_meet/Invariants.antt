-- `decode_pairs::boards_meet` meets its contract: the tests that are left are the tests of the whole.
-- Assumes nothing.
use Rattle.std.proofs.Common.{◌≡◌, ℕ, Bool, drop}
use Rattle.lists.specs.Tests.{alls}
use Rattle.lists.specs.Lists.{tabulate}
use Rattle.decode_laws.specs.Steps.{board_meets}
use Rattle.decode_pairs.proofs.boards_meet.Given as goal

abbrev pub invariant-loop-i : goal.invariant-loop-i
invariant-loop-i l =
    let q : ℕ → Bool = board_meets l.n l.d l.w l.p l.m l.boards l.ff l.gf l.fs l.gs in
    alls (drop l.i (tabulate l.k q)) ≡ alls (tabulate l.k q)
