-- `multiples::fill_multiples` meets its contract.
-- Assumes nothing.
use Rattle.std.proofs.Common.{◌∙◌, arith}
use Rattle.std.proofs.Math.Seq.{take_all}
use Rattle.multiples.proofs.Windows.{table-made}
use Rattle.multiples.proofs.fill_multiples.Goals as goal

pub returns : goal.returns
returns c =
    table-made c.args.row.now c.args.t.now _ _ _ _ _ _ _ _ c.requires.0 c.requires.1
    (c.put_row.ensures ∙ c.row_at.ensures ∙ take_all 32 c.args.row.now (omega (arith, c.requires.0)))
    c.fill_window.ensures.0 c.fill_window.ensures.1 c.fill_window-2.ensures.0 c.fill_window-2.ensures.1
    c.fill_window-3.ensures.0 c.fill_window-3.ensures.1 c.fill_window-4.ensures.0
