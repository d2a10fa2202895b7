-- `size_rows::step` meets its contract behind the last combination, where no line is written.
-- Assumes nothing.
use Rattle.std.proofs.Common.{sym, ap, subst}
use Rattle.text_lines.specs.Steps.{Wrote}
use Rattle.text_lines.proofs.Writes.{none}
use Rattle.size_list.specs.Combinations.{rows}
use Rattle.size_steps.specs.Steps.{met}
use Rattle.size_rows.proofs.step.Goals as goal

pub returns-in-None-clause-wrote : goal.returns-in-None-clause-wrote
returns-in-None-clause-wrote c =
    let a = c.args in
    subst (λ l. Wrote a.out.now a.at l a.out.now a.at) (sym (ap (λ p. rows (met a.most 1 p)) c.in-None.is)) (none a.out.now a.at)
