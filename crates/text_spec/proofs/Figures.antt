-- The figures of texts: antt computes them.
-- Assumes nothing.
use mathlib.Core.Path.{refl}
use Rattle.lists.specs.Lists.{piece}
use Rattle.gf256.specs.Field.{add, product, reduce, mul, squares, inverse}
use Rattle.sizes.specs.Sizing.{legal, B, stripes}
use Rattle.mbcr.specs.Share.{pointed, stripe, grid, F, neighbours, symbols, kept, share, shares}
use Rattle.mbcr.specs.Rebuild.{own_f, own_g}
use Rattle.mbcr.specs.Read.{through, b_column, c_row, a_column, decoded_stripe, decoded_file, read_file}
use Rattle.text_spec.specs.Texts.{admitted, some_points, text_at, read_text, texts_of}
use Rattle.text_spec.specs.Calls.{read_text_lines, read_text_call, gathered, gather_lines, gather_call}
use Rattle.text_spec.specs.Figures.{TextFigures}

pub figures : TextFigures
unfolding piece add product reduce mul squares inverse legal B stripes pointed stripe grid F neighbours symbols kept share shares own_f own_g through b_column c_row
    a_column decoded_stripe decoded_file read_file admitted some_points text_at read_text texts_of read_text_lines read_text_call gathered gather_lines gather_call
figures = record {
  without-points = refl;
  with-points = refl;
  two-texts = refl;
  lines = refl;
  shares = refl;
  whole = refl;
  points = refl;
  values = refl;
  read = refl;
  short = refl;
  read-refusals = refl;
  gather-refusals = refl;
  gathered = refl;
}
