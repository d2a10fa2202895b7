-- `repair_parts::put_word` meets its contract: the lowest byte, and the rest goes on.
-- Assumes nothing.
use Rattle.std.proofs.Common.{arith}
use Rattle.repair_parts.proofs.Parts.{fill-next, part-next, fill_done}
use Rattle.repair_parts.proofs.put_word.Goals as goal

pub loop-b-preserved : goal.loop-b-preserved
loop-b-preserved c =
    let a = c.args in
    let l = c.loop-b in (
      fill-next l.b-index a.word a.out.now l.out l.rest c.loop-b-test.true l.invariant.1 l.invariant.0,
      part-next l.b-index a.word l.rest l.invariant.1,
    )

pub returns : goal.returns
returns c = fill_done c.loop-b.b-index c.args.word c.args.out.now c.loop-b.out (omega arith) c.requires c.loop-b.invariant.0
