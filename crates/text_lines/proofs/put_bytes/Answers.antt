-- `text_lines::put_bytes` meets its contract: the part has the bytes, and the rest stays.
-- Assumes nothing.
use Rattle.text_lines.proofs.Writes.{part}
use Rattle.text_lines.proofs.put_bytes.Goals as goal

pub returns : goal.returns
returns c = part c.args.out.now _ c.args.bytes.now c.args.at c.copy_from_slice.ensures.after
