-- `row_sums::row_at` meets its contract.
-- Assumes nothing.
use Rattle.row_sums.proofs.Words.{row-run}
use Rattle.row_sums.proofs.row_at.Goals as goal

pub returns : goal.returns
returns c =
    row-run c.args.t.now c.args.i
    (record { a = c.word_at.result; b = c.word_at-2.result; c = c.word_at-3.result; d = c.word_at-4.result })
    c.word_at.ensures c.word_at-2.ensures c.word_at-3.ensures c.word_at-4.ensures
