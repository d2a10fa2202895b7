-- `padded::pad` meets its contract. The loop's invariant: the bytes so far, before what was there.
-- Assumes nothing.
use Rattle.std.proofs.Common.{◌+◌, get_or, arith}
use Rattle.std.proofs.Math.ListN.{length-set}
use Rattle.lists.proofs.Pieces.{fill-loop}
use Rattle.padded.proofs.Bytes.{pad-end}
use Rattle.padded.proofs.pad.Goals as goal

pub loop-t-preserved : goal.loop-t-preserved
loop-t-preserved c = (
  fill-loop (λ t. get_or c.args.file.now (c.args.base + t) 0) c.args.out.now c.loop-t.out c.loop-t.t _ (omega arith) c.byte.ensures c.loop-t.invariant.0,
  omega (arith, length-set c.loop-t.out c.loop-t.t c.byte.result),
)

pub returns : goal.returns
returns c = pad-end c.loop-t.t c.args.base c.args.file.now c.args.out.now c.loop-t.out (omega arith) c.loop-t.invariant.0
