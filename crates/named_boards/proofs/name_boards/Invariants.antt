-- `named_boards::name_boards` meets its contract: the runs of the fresh boards so far, before what was there.
-- Assumes nothing.
use Rattle.std.proofs.Common.{◌≡◌, ◌++◌, ◌*◌, drop}
use Rattle.lists.specs.Lists.{join, piece}
use Rattle.named_boards.proofs.name_boards.Given as goal

abbrev pub invariant-loop-a : goal.invariant-loop-a
invariant-loop-a l = l.out ≡ join l.a (λ b. piece l.d b l.helpers ++ piece l.e b l.standins) ++ drop (l.a * l.c) l.initial.out
