-- `decode_texts::stripes_agree` meets its contract: the tests that are left are the tests of the whole.
-- Assumes nothing.
use Rattle.std.proofs.Common.{◌≡◌, ℕ, Bool, length, drop}
use Rattle.lists.specs.Tests.{alls}
use Rattle.lists.specs.Lists.{tabulate}
use Rattle.decode_texts.proofs.ByStripes.{reads}
use Rattle.decode_texts.proofs.stripes_agree.Given as goal

abbrev pub invariant-loop-s : goal.invariant-loop-s
invariant-loop-s l =
    let q : ℕ → Bool = reads l.sizes l.points l.len l.boards l.text l.places in
    (alls (drop l.s (tabulate l.stripes q)) ≡ alls (tabulate l.stripes q)) × (length l.held ≡ length l.initial.held)
