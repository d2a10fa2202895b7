-- The printer's figures: antt computes them.
-- Assumes nothing.
use mathlib.Core.Path.{refl}
use Rattle.lists.specs.Lists.{piece}
use Rattle.gf256.specs.Field.{add, product, reduce, mul, squares, inverse}
use Rattle.sizes.specs.Sizing.{legal, B, stripes}
use Rattle.mbcr.specs.Share.{pointed, stripe, grid, F, neighbours, symbols, kept, share, shares}
use Rattle.board_spec.specs.Text.{decimal, points_line, share_text}
use Rattle.board_spec.specs.Calls.{share_lines, share_call}
use Rattle.printer.specs.Printer.{shared, printed}
use Rattle.print_figures.specs.PrinterFigures.{PrinterFigures}

pub figures : PrinterFigures
unfolding piece add product reduce mul squares inverse legal B stripes stripe grid F neighbours symbols kept share shares pointed decimal points_line share_text share_lines share_call shared printed
figures = record { refused-lines = refl; example = refl; empty = refl; all-differ = refl; most = refl; one_more = refl; malformed = refl; unended = refl; illegal = refl; long = refl; boards = refl }
