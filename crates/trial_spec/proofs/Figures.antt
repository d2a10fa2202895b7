-- The figures of the trial: antt computes them.
-- Assumes nothing.
use mathlib.Core.Path.{refl}
use Rattle.lists.specs.Lists.{piece, put}
use Rattle.gf256.specs.Field.{add, product, reduce, mul, squares, inverse}
use Rattle.sizes.specs.Sizing.{legal, B, stripes}
use Rattle.mbcr.specs.Share.{pointed, stripe, grid, F, neighbours, symbols, kept, share, shares}
use Rattle.mbcr.specs.Rebuild.{seconds, received, exchanged, own_f, own_g, helper_pair, helper_packet, stand_in_packet, g_from, exchange_packet, f_from, finished_stripe, finished_share}
use Rattle.mbcr.specs.Read.{through, b_column, c_row, a_column, decoded_stripe, decoded_file, read_file}
use Rattle.board_spec.specs.Text.{decimal}
use Rattle.store_spec.specs.Record.{sound}
use Rattle.store_spec.specs.Packets.{helper_packets, stand_in_packets, exchange_packets, partner_packets, repair_packets, fresh_share}
use Rattle.store_spec.specs.Calls.{write_lines, lose_lines, list_lines, repair_lines, read_lines, set_up_call, write_call, lose_call, repair_call, read_call}
use Rattle.beside_spec.specs.Running.{sound_beside}
use Rattle.beside_spec.specs.Both.{write_lines_both, lose_lines_both, repair_lines_both, read_lines_both, set_up_both, write_both, lose_both, repair_both, read_both}
use Rattle.beside_spec.specs.Acting.{act}
use Rattle.generator.specs.Generator.{step}
use Rattle.trial_spec.specs.Trial.{taken, loaded, drawn, call_line, trial_over, trial_text}
use Rattle.trial_spec.specs.Figures.{TrialFigures}

pub figures : TrialFigures
unfolding piece put add product reduce mul squares inverse legal B stripes pointed stripe grid F neighbours symbols kept share shares seconds received exchanged own_f
    own_g helper_pair helper_packet stand_in_packet g_from exchange_packet f_from finished_stripe finished_share through b_column c_row a_column decoded_stripe decoded_file
    read_file sound helper_packets stand_in_packets exchange_packets partner_packets repair_packets fresh_share write_lines lose_lines list_lines repair_lines read_lines set_up_call write_call lose_call
    repair_call read_call sound_beside write_lines_both lose_lines_both repair_lines_both read_lines_both set_up_both write_both lose_both repair_both read_both
    act step taken loaded drawn call_line trial_over trial_text decimal
figures = record {
  calls = refl;
  lists = refl;
  one_line = refl;
  text = refl;
  no-calls = refl;
  too_long = refl;
  limits = refl;
  above = refl;
  numbers = refl;
  forms = refl;
}
