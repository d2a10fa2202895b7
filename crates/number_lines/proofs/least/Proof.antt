-- `number_lines::least` meets its contract, by the test.
-- Assumes nothing.
use mathlib.Core.Path.{sym}
use Rattle.number_lines.proofs.Capped.{capped-low, capped-high}
use Rattle.number_lines.proofs.least.Statement.{statement}
use Rattle.number_lines.proofs.least.Tie as tie

pub least_spec : {M : Type 1} → statement M
least_spec = tie.close (tie.spec (λ c. sym (capped-low _ _ c.if-v-most.true)) (λ c. sym (capped-high _ _ c.if-v-most.false)))
