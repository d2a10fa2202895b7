-- A limit that is not refused is 2 to 32.
use Rattle.std.proofs.Common.{◌≤◌, sym, subst, arith}
use mathlib.Core.Logic.{⊎_elim}
use Rattle.size_list.proofs.Limited.{limit-range}
use Rattle.size_printer.proofs.main.Goals as goal

pub print-requires : goal.print-requires
print-requires c =
    let m = c.limit-most in
    subst (λ x. (2 ≤ x) × (x ≤ 32)) (sym m.ensures)
    (⊎_elim (λ e. absurd (omega (arith, e, m.ensures, c.if-most-eq0.false))) (λ h. h) (limit-range _))
