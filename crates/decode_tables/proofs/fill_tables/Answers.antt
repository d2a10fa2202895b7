-- `decode_tables::fill_tables` meets its contract: the tables so far, before what was there.
-- Assumes nothing.
use Rattle.std.proofs.Common.{ap, ◌∙◌, arith}
use Rattle.lists.specs.Lists.{piece}
use Rattle.lists.proofs.Pieces.{part-piece, length-piece}
use Rattle.sizes.proofs.Legal.{row_fits}
use Rattle.row_sums.specs.Steps.{multiples}
use Rattle.row_sums.proofs.Tables.{length-multiples}
use Rattle.decode_laws.proofs.Loops.{join-loop, join-end}
use Rattle.decode_tables.proofs.fill_tables.Goals as goal

pub loop-s-preserved : goal.loop-s-preserved
loop-s-preserved c =
    let a = c.args in
    let l = c.loop-s in
    join-loop _ 512 l.s a.tables.now l.tables _
    (λ s h. length-multiples (piece 32 s a.rows.now) (length-piece 32 s a.rows.now (omega (arith, row_fits s a.count 32 (omega arith), c.requires))))
    (c.fill_multiples.ensures ∙ ap multiples (part-piece 32 l.s a.rows.now)) l.invariant

pub returns : goal.returns
returns c = join-end _ 512 c.loop-s.s c.args.count c.args.tables.now c.loop-s.tables (omega arith) c.requires.2 c.loop-s.invariant
