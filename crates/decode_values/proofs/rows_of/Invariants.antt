-- `decode_values::rows_of` meets its contract: the rows so far, before what was there.
-- Assumes nothing.
use Rattle.std.proofs.Common.{◌≡◌, ◌+◌, ◌-◌, ◌*◌, ◌++◌, take, drop, get_or}
use Rattle.lists.specs.Lists.{join}
use Rattle.decode_laws.specs.Steps.{f_row, g_row}
use Rattle.decode_values.proofs.rows_of.Given as goal

abbrev pub invariant-loop-t : goal.invariant-loop-t
invariant-loop-t l = record {
  fs : l.fs ≡ join l.t (λ t. f_row l.w (take (l.w + (l.d - 1)) (drop (get_or l.starts t 0 + l.at) l.bytes))) ++ drop (l.t * 32) l.initial.fs;
  gs : l.gs ≡ join l.t (λ t. g_row l.w (take (l.w + (l.d - 1)) (drop (get_or l.starts t 0 + l.at) l.bytes))) ++ drop (l.t * 32) l.initial.gs;
}
