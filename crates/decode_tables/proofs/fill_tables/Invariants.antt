-- `decode_tables::fill_tables` meets its contract: the tables so far, before what was there.
-- Assumes nothing.
use Rattle.std.proofs.Common.{◌≡◌, ◌*◌, ◌++◌, drop}
use Rattle.lists.specs.Lists.{join, piece}
use Rattle.row_sums.specs.Steps.{multiples}
use Rattle.decode_tables.proofs.fill_tables.Given as goal

abbrev pub invariant-loop-s : goal.invariant-loop-s
invariant-loop-s l = l.tables ≡ join l.s (λ s. multiples (piece 32 s l.rows)) ++ drop (l.s * 512) l.initial.tables
