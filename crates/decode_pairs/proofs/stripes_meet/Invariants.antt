-- `decode_pairs::stripes_meet` meets its contract: the tests that are left are the tests of the whole.
-- Assumes nothing.
use Rattle.std.proofs.Common.{◌≡◌, ℕ, Bool, drop}
use Rattle.lists.specs.Tests.{alls}
use Rattle.lists.specs.Lists.{tabulate}
use Rattle.decode_laws.specs.Steps.{pairs_meet, held_at}
use Rattle.decode_pairs.proofs.stripes_meet.Given as goal

abbrev pub invariant-loop-s : goal.invariant-loop-s
invariant-loop-s l =
    let q : ℕ → Bool = λ s. pairs_meet l.sizes l.points l.boards (held_at l.sizes l.starts l.bytes s) in
    alls (drop l.s (tabulate l.stripes q)) ≡ alls (tabulate l.stripes q)
