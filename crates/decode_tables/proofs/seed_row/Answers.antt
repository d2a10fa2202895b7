-- `decode_tables::seed_row` meets its contract.
-- Assumes nothing.
use Rattle.std.proofs.Common.{ap, ◌∙◌, ℕ}
use Rattle.lists.specs.Lists.{tabulate}
use Rattle.decode_tables.proofs.Made.{seed-row-made}
use Rattle.decode_tables.proofs.seed_row.Goals as goal

pub returns : goal.returns
returns c =
    seed-row-made c.args.xs.now c.args.s _ _ _ c.requires.1 (c.clear.ensures ∙ ap (λ (k : ℕ). tabulate k (λ _. 0)) c.requires.2) c.fill_seeds.ensures
    c.interpolate.ensures
