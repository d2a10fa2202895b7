-- `gf256_rows::add_scaled` meets its contract. The loop's invariant: the j symbols that are done, then `add_scaled` of what is left, are the answer.
-- Assumes nothing.
use Rattle.std.proofs.Common.{◌≡◌, length}
use Rattle.gf256.specs.Field.{add_scaled}
use Rattle.gf256_rows.proofs.Rows.{answer}
use Rattle.gf256_rows.proofs.add_scaled.Given as goal

abbrev pub invariant-loop-j : goal.invariant-loop-j
invariant-loop-j l = (length l.acc ≡ length l.initial.acc) × (answer l.c l.row l.acc l.j ≡ add_scaled l.c l.row l.initial.acc)
