-- `decode_tables::seed_rows` meets its contract: the rows so far, before what was there.
-- Assumes nothing.
use Rattle.std.proofs.Common.{arith}
use Rattle.lists.proofs.Pieces.{length-fit}
use Rattle.polynomial.specs.Polynomial.{interpolate}
use Rattle.decode_laws.specs.Steps.{seeds, seed_rows}
use Rattle.decode_laws.proofs.Loops.{join-loop, join-end}
use Rattle.decode_tables.proofs.seed_rows.Goals as goal

pub loop-s-preserved : goal.loop-s-preserved
loop-s-preserved c =
    let xs = c.args.xs.now in
    join-loop _ 32 c.loop-s.s c.args.rows.now c.loop-s.rows _ (λ s h. length-fit 32 (interpolate xs (seeds xs s))) c.seed_row.ensures c.loop-s.invariant

pub returns : goal.returns
unfolding seed_rows
returns c = join-end _ 32 c.loop-s.s c.args.d c.args.rows.now c.loop-s.rows (omega arith) c.requires.3 c.loop-s.invariant
