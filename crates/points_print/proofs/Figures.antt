-- The points printer's figures: antt computes them.
-- Assumes nothing.
use mathlib.Core.Path.{refl}
use Rattle.lists.specs.Lists.{piece}
use Rattle.gf256.specs.Field.{add, product, reduce, mul, squares, inverse}
use Rattle.sizes.specs.Sizing.{legal, B, stripes}
use Rattle.mbcr.specs.Share.{pointed, stripe, grid, F, neighbours, symbols, kept, share, shares}
use Rattle.board_spec.specs.Text.{decimal, points_line, share_text}
use Rattle.board_spec.specs.Calls.{share_lines, share_call}
use Rattle.printer.specs.Printer.{shared}
use Rattle.points_print.specs.PointsPrinter.{points_printed}
use Rattle.points_print.specs.Figures.{PointsFigures}

pub figures : PointsFigures
unfolding piece add product reduce mul squares inverse legal B stripes stripe grid F neighbours symbols kept share shares pointed decimal points_line share_text share_lines share_call shared points_printed
figures = record { all-differ = refl; identity = refl; malformed = refl; not_taken = refl; long = refl; no-board = refl }
