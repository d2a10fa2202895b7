-- `edit_powers::add_times` meets its contract: 00 times a row adds nothing.
-- Assumes nothing.
use Rattle.std.proofs.Common.{sym, ap, ◌∙◌, ℕ}
use Rattle.gf256.specs.Field.{add_scaled}
use Rattle.edit_powers.proofs.Rows.{times_none}
use Rattle.edit_powers.proofs.add_times.Goals as goal

pub returns-else-c-ne0 : goal.returns-else-c-ne0
returns-else-c-ne0 c =
    let a = c.args in
    sym (ap (λ (x : ℕ). add_scaled x a.row.now a.acc.now) c.if-c-ne0.false ∙ times_none a.row.now a.acc.now)
