-- `row_sums::put_row` meets its contract.
-- Assumes nothing.
use Rattle.row_sums.proofs.Words.{put-words}
use Rattle.row_sums.proofs.put_row.Goals as goal

pub returns : goal.returns
returns c =
    put-words c.args.out.now c.args.x _ _ _ _ c.requires c.put_word.ensures c.put_word-2.ensures c.put_word-3.ensures c.put_word-4.ensures
