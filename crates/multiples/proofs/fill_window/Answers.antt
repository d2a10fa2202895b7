-- `multiples::fill_window` meets its contract.
-- Assumes nothing.
use Rattle.std.proofs.Common.{◌∙◌, ◌<◌, ap, take, rules}
use Rattle.lists.proofs.Alls.{all_of}
use Rattle.polynomial.specs.Polynomial.{scale}
use Rattle.row_sums.specs.Steps.{row_bytes}
use Rattle.multiples.proofs.Windows.{window-made, doubled-twice}
use Rattle.multiples.proofs.fill_window.Goals as goal

pub returns : goal.returns
unfolding row_bytes
returns c =
    let row = c.args.row.now in (
      window-made row c.args.t.now (row_bytes c.row_at-one.result) (row_bytes c.row_at-two.result) _ _ _ _
          (all_of (λ b. b < 256) 0 row (λ i h. search rules)) c.requires.0 c.requires.1
          c.row_at-one.ensures (c.row_at-two.ensures ∙ ap (take 32) c.double_all.ensures)
          c.put_row.ensures c.put_row-2.ensures c.put_row-3.ensures (c.put_row-4.ensures ∙ c.plus.ensures),
      c.double_all-2.ensures ∙ ap (scale 2) c.double_all.ensures ∙ doubled-twice row,
    )
