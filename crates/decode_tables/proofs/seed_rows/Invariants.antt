-- `decode_tables::seed_rows` meets its contract: the rows so far, before what was there.
-- Assumes nothing.
use Rattle.std.proofs.Common.{◌≡◌, ◌*◌, ◌++◌, drop}
use Rattle.lists.specs.Lists.{join, fit}
use Rattle.polynomial.specs.Polynomial.{interpolate}
use Rattle.decode_laws.specs.Steps.{seeds}
use Rattle.decode_tables.proofs.seed_rows.Given as goal

abbrev pub invariant-loop-s : goal.invariant-loop-s
invariant-loop-s l = l.rows ≡ join l.s (λ s. fit 32 (interpolate l.xs (seeds l.xs s))) ++ drop (l.s * 32) l.initial.rows
